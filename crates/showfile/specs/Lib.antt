pub mod Chain
pub mod Refusals
pub mod Opening
