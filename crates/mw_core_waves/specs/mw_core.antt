-- What `mw_core` offers, for the crates above.
pub use Rattle.mw_core.specs.Costs
