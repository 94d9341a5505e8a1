-- What `mw_element_runs` offers, for the crates above.
pub use Rattle.mw_element_runs.specs.Runs
pub use Rattle.mw_element_runs.specs.declared
