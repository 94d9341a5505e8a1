-- what other crates may cite
pub mod TileCells
pub mod Patches
pub mod Windows
-- the crate's own
mod Pasted
mod WordRuns
mod Laid
mod Only
-- what lower crates offer
pub use Rattle.mw_tile.proofs as mw_tile
pub use Rattle.mw_tile.proofs.mw_pixel_words as mw_pixel_words
