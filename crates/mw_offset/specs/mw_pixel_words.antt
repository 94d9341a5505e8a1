-- What `mw_pixel_words` offers, for the crates above.
pub use Rattle.mw_line.specs.mw_pixel_words.Packed
