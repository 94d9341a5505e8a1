-- what other crates may cite
pub mod Exclusive
pub mod Files
pub mod RowTexts
pub mod Sides
-- the crate's own
mod Bounds
mod Chunks
mod CutRows
mod Lanes
mod Made
mod Packing
mod Rasters
mod Refused
mod Rows
mod SetRows
mod Turning
mod Whole
mod Written
