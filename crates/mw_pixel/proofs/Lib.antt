-- what other crates may cite
pub mod Cells
-- the crate's own
mod Lanes
mod Held
mod Same
-- what lower crates offer
pub use Rattle.mw_pixel_words.proofs as mw_pixel_words
