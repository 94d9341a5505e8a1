-- What `mw_tile` offers, for the crates above.
pub use Rattle.mw_store.specs.mw_tile.Windows
