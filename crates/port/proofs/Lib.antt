pub mod Upstream
pub mod Widening
