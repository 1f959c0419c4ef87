pub mod CountFacts
pub mod LevelFacts
pub mod HeadFacts
