-- what other crates may cite
pub mod Rows
pub mod Shown
-- what lower crates offer
pub use Rattle.mw_pixel.proofs as mw_pixel
pub use Rattle.mw_pixel.proofs.mw_pixel_words as mw_pixel_words
