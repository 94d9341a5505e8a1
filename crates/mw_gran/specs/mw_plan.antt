-- What `mw_plan` offers, for the crates above.
pub use Rattle.mw_plan.specs.Asked
pub use Rattle.mw_plan.specs.Faults
pub use Rattle.mw_plan.specs.PlansOf
pub use Rattle.mw_plan.specs.Seen
pub use Rattle.mw_plan.specs.Tables
pub use Rattle.mw_plan.specs.declared
