-- What `mw_pixel` offers, for the crates above.
pub use Rattle.mw_netpbm_plain.specs.mw_pixel.Images
