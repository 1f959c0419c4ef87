pub mod Members
pub mod Keeps
pub mod Outcomes
