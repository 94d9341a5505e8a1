-- What `mw_store` offers, for the crates above.
pub use Rattle.mw_store.specs.Fetches
pub use Rattle.mw_store.specs.declared
