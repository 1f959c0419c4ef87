pub mod Kinds
pub mod Rigs
pub mod Outcomes
pub mod Drives
