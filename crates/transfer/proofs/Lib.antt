pub mod Taking
pub mod Storing
