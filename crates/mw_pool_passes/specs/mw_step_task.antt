-- What `mw_step_task` offers, for the crates above.
pub use Rattle.mw_core.specs.mw_step_task.WindowTasks
