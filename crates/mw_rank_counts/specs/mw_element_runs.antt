-- What `mw_element_runs` offers, for the crates above.
pub use Rattle.mw_rank.specs.mw_element_runs.Runs
pub use Rattle.mw_rank.specs.mw_element_runs.declared
