-- What `mw_pixel` offers, for the crates above.
pub use Rattle.mw_pixel.specs.Images
