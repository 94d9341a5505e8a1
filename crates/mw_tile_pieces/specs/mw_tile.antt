-- What `mw_tile` offers, for the crates above.
pub use Rattle.mw_tile.specs.Cuts
pub use Rattle.mw_tile.specs.Windows
