-- what other crates may cite
pub mod Answered
pub mod BitmapElements
pub mod CoveredAlike
pub mod Passed
pub mod RebuiltImages
pub mod Shapes
-- the crate's own
mod DistanceSizes
mod Measured
mod Near
mod Nearest
mod RebuildPassed
mod RegionRows
mod ToldFirst
mod ToldRegions
mod TurnedSamples
