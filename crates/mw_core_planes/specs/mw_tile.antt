-- What `mw_tile` offers, for the crates above.
pub use Rattle.mw_plan.specs.mw_tile.Windows
