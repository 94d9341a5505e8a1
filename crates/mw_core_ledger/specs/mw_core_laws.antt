-- What `mw_core_laws` offers, for the crates above.
pub use Rattle.mw_core_tasks.specs.mw_core_laws.Changes
pub use Rattle.mw_core_tasks.specs.mw_core_laws.Counts
pub use Rattle.mw_core_tasks.specs.mw_core_laws.Events
pub use Rattle.mw_core_tasks.specs.mw_core_laws.Facts
pub use Rattle.mw_core_tasks.specs.mw_core_laws.Limits
pub use Rattle.mw_core_tasks.specs.mw_core_laws.Payloads
pub use Rattle.mw_core_tasks.specs.mw_core_laws.Rows
pub use Rattle.mw_core_tasks.specs.mw_core_laws.TaskEvents
pub use Rattle.mw_core_tasks.specs.mw_core_laws.Turns
pub use Rattle.mw_core_tasks.specs.mw_core_laws.Works
