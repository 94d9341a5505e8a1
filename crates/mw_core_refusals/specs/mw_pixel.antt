-- What `mw_pixel` offers, for the crates above.
pub use Rattle.mw_store.specs.mw_pixel.Images
