-- What `mw_plan` offers, for the crates above.
pub use Rattle.mw_gran.specs.mw_plan.Asked
pub use Rattle.mw_gran.specs.mw_plan.Faults
pub use Rattle.mw_gran.specs.mw_plan.PlansOf
pub use Rattle.mw_gran.specs.mw_plan.Seen
pub use Rattle.mw_gran.specs.mw_plan.Tables
pub use Rattle.mw_gran.specs.mw_plan.declared
