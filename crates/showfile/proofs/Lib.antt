pub mod Cycle
pub mod Exact
