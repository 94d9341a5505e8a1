-- What `mw_tile` offers, for the crates above.
pub use Rattle.mw_tile_planes.specs.mw_tile.Windows
