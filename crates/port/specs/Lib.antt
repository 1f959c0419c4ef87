pub mod Upstream
pub mod Sets
pub mod Reach
pub mod Texts
