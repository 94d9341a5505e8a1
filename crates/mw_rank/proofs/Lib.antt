-- what other crates may cite
pub mod Counts
pub mod Sights
pub mod Moves
pub mod Elements
pub mod Rows
pub mod Edges
-- the crate's own
mod Parts
-- what lower crates offer
pub use Rattle.mw_tile.proofs.mw_pixel as mw_pixel
