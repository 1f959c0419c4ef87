pub mod Refusal
pub mod Meaning
pub mod Packing
pub mod Sequences
