pub mod Lists
pub mod Transfers
pub mod Rows
