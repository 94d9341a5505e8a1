-- What `mw_core_tasks` offers, for the crates above.
pub use Rattle.mw_core_tasks.specs.Planning
pub use Rattle.mw_core_tasks.specs.Results
pub use Rattle.mw_core_tasks.specs.SourceWindows
