-- What `mw_step_task` offers, for the crates above.
pub use Rattle.mw_core_laws.specs.mw_step_task.Products
pub use Rattle.mw_core_laws.specs.mw_step_task.WindowTasks
pub use Rattle.mw_core_laws.specs.mw_step_task.declared
