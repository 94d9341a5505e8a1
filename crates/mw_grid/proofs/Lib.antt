-- what other crates may cite
pub mod Counts
pub mod Lines
pub mod Meeting
pub mod Reaching
pub mod Tiles
-- the crate's own
mod Pieces
