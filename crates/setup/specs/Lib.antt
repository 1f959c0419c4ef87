pub mod Pieces
pub mod Numbers
pub mod Keywords
pub mod Directives
pub mod Problems
