pub mod Within
pub mod Pairing
pub mod Going
