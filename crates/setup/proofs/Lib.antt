pub mod Asking
pub mod Fronts
pub mod Reading
