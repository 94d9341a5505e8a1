-- what other crates may cite
pub mod Gathered
pub mod HeldSpans
pub mod Labellings
pub mod Paintings
pub mod RegionLaws
pub mod Results
pub mod RowsWritten
pub mod RunAreas
pub mod Told
pub mod Written
-- the crate's own
mod CountedLabels
mod DefinedLabels
mod FirstPlaces
mod Overwritten
mod Shown
