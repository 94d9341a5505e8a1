-- What `mw_store` offers, for the crates above.
pub use Rattle.mw_core.specs.mw_store.Fetches
