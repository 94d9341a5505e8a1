-- What `mw_plan` offers, for the crates above.
pub use Rattle.mw_store.specs.mw_plan.Tables
pub use Rattle.mw_store.specs.mw_plan.declared
