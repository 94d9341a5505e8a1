-- what other crates may cite
pub mod Begun
pub mod Bitmaps
pub mod Blanks
pub mod Faults
pub mod Headers
pub mod InWords
pub mod Numbered
pub mod Outcomes
pub mod PlainRefused
pub mod Rasters
pub mod Sides
pub mod Whole
-- the crate's own
mod Enough
mod FewDigits
mod Masks
mod PlainLoop
mod PlainSets
mod Tallies
-- what lower crates offer
pub use Rattle.mw_pixel.proofs as mw_pixel
pub use Rattle.mw_pixel.proofs.mw_pixel_words as mw_pixel_words
