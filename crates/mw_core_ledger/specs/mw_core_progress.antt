-- What `mw_core_progress` offers, for the crates above.
pub use Rattle.mw_core_tasks.specs.mw_core_progress.ProgressView
