pub mod Parts
pub mod Places
pub mod Splits
pub mod Offsets
pub mod Layouts
pub mod EdgeCells
pub mod Counts
