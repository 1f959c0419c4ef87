pub mod Modes
pub mod Sound
pub mod Rows
pub mod Texts
pub mod View
pub mod Laws
