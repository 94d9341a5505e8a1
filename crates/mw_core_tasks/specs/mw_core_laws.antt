-- What `mw_core_laws` offers, for the crates above.
pub use Rattle.mw_core_laws.specs.Changes
pub use Rattle.mw_core_laws.specs.Counts
pub use Rattle.mw_core_laws.specs.Events
pub use Rattle.mw_core_laws.specs.Facts
pub use Rattle.mw_core_laws.specs.Limits
pub use Rattle.mw_core_laws.specs.Payloads
pub use Rattle.mw_core_laws.specs.Rows
pub use Rattle.mw_core_laws.specs.TaskEvents
pub use Rattle.mw_core_laws.specs.Turns
pub use Rattle.mw_core_laws.specs.Works
