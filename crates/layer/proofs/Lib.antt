pub mod Holding
pub mod Refining
pub mod Sending
