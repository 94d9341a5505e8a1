-- What `mw_pixel_words` offers, for the crates above.
pub use Rattle.mw_pixel.specs.mw_pixel_words.Packed
pub use Rattle.mw_pixel.specs.mw_pixel_words.Runs
