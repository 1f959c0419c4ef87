pub mod Verdicts
pub mod Acts
pub mod Does
pub mod Leading
pub mod Makes
