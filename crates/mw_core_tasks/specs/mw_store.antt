-- What `mw_store` offers, for the crates above.
pub use Rattle.mw_core_laws.specs.mw_store.Entries
pub use Rattle.mw_core_laws.specs.mw_store.Kept
pub use Rattle.mw_core_laws.specs.mw_store.RowRoom
pub use Rattle.mw_core_laws.specs.mw_store.Stored
pub use Rattle.mw_core_laws.specs.mw_store.declared
