-- What `mw_pixel` offers, for the crates above.
pub use Rattle.mw_tile_planes.specs.mw_pixel.Images
