pub mod Asking
pub mod Shapes
