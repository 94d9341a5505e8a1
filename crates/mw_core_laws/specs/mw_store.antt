-- What `mw_store` offers, for the crates above.
pub use Rattle.mw_store.specs.Entries
pub use Rattle.mw_store.specs.Kept
pub use Rattle.mw_store.specs.RowRoom
pub use Rattle.mw_store.specs.Stored
pub use Rattle.mw_store.specs.declared
