-- what other crates may cite
pub mod Folds
pub mod Joined
pub mod Over
pub mod Rows
pub mod Seen
pub mod Tiles
pub mod Within
-- the crate's own
mod Cells
mod Cut
mod HeldRows
mod SlidRows
mod Spans
mod Levels
mod Merged
mod Growing
mod Segments
mod Padded
-- what lower crates offer
pub use Rattle.mw_tile.proofs.mw_pixel_words as mw_pixel_words
