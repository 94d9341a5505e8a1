-- What `mw_tile_planes` offers, for the crates above.
pub use Rattle.mw_core_planes.specs.mw_tile_planes.Sums
pub use Rattle.mw_core_planes.specs.mw_tile_planes.Tiles
