pub mod Takes
pub mod LevelMeaning
pub mod HeadMeaning
pub mod Few
pub mod Counts
pub mod LevelLaws
pub mod HeadLaws
