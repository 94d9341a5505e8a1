pub mod Bests
pub mod Parts
pub mod Boxes
pub mod Near
pub mod Sheets
pub mod Differences
