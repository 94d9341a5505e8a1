-- What `mw_plan` offers, for the crates above.
pub use Rattle.mw_core_planes.specs.mw_plan.Asked
pub use Rattle.mw_core_planes.specs.mw_plan.PlansOf
pub use Rattle.mw_core_planes.specs.mw_plan.declared
