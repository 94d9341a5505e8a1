-- What `mw_tile` offers, for the crates above.
pub use Rattle.mw_rank.specs.mw_tile.Windows
