pub mod Codes
pub mod Records
pub mod Shows
pub mod Examples
