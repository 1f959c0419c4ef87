pub mod Plans
pub mod Views
pub mod Texts
pub mod Asked
