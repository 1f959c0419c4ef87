pub mod Left
pub mod Logs
