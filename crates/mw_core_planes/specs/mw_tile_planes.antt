-- What `mw_tile_planes` offers, for the crates above.
pub use Rattle.mw_tile_planes.specs.Sums
pub use Rattle.mw_tile_planes.specs.Tiles
