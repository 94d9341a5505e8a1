-- What `mw_tile_planes` offers, for the crates above.
pub use Rattle.mw_core_laws.specs.mw_tile_planes.Filled
pub use Rattle.mw_core_laws.specs.mw_tile_planes.Tiles
