-- What `mw_store` offers, for the crates above.
pub use Rattle.mw_core_refusals.specs.mw_store.Entries
pub use Rattle.mw_core_refusals.specs.mw_store.Fetches
