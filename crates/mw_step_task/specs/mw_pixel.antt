-- What `mw_pixel` offers, for the crates above.
pub use Rattle.mw_element.specs.mw_pixel.Images
