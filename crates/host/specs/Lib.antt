pub mod Parts
pub mod Logged
pub mod Hosted
pub mod Steps
pub mod Led
pub mod Commands
pub mod Keeping
