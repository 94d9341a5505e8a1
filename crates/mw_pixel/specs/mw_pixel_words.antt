-- What `mw_pixel_words` offers, for the crates above.
pub use Rattle.mw_pixel_words.specs.Packed
pub use Rattle.mw_pixel_words.specs.Runs
