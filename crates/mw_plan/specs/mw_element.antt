-- What `mw_element` offers, for the crates above.
pub use Rattle.mw_step_task.specs.mw_element.Figures
