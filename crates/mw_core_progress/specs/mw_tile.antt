-- What `mw_tile` offers, for the crates above.
pub use Rattle.mw_core_planes.specs.mw_tile.Windows
