pub mod Holds
pub mod Layers
pub mod Steps
