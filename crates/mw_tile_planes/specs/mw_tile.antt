-- What `mw_tile` offers, for the crates above.
pub use Rattle.mw_step_task.specs.mw_tile.Windows
