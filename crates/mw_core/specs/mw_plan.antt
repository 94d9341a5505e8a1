-- What `mw_plan` offers, for the crates above.
pub use Rattle.mw_core_refusals.specs.mw_plan.Tables
