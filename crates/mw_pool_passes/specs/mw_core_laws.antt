-- What `mw_core_laws` offers, for the crates above.
pub use Rattle.mw_core.specs.mw_core_laws.Events
pub use Rattle.mw_core.specs.mw_core_laws.Payloads
pub use Rattle.mw_core.specs.mw_core_laws.TaskEvents
pub use Rattle.mw_core.specs.mw_core_laws.Works
