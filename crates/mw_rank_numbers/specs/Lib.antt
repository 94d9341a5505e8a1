pub mod LevelSets
pub mod Numbers
