pub mod Shape
pub mod Order
pub mod Kinds
pub mod Commands
pub mod Decoding
pub mod Answers
