-- What `mw_step_task` offers, for the crates above.
pub use Rattle.mw_step_task.specs.Products
pub use Rattle.mw_step_task.specs.WindowTasks
pub use Rattle.mw_step_task.specs.declared
