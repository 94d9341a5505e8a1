pub mod mw_step_task
