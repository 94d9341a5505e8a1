pub mod Rasters
pub mod Rows
pub mod Swapping
pub mod Whole
pub mod SetWords
