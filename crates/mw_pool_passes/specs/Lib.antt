pub mod Passes
pub mod Blocks
-- what lower crates offer
pub mod mw_core
pub mod mw_core_laws
pub mod mw_model_laws
pub mod mw_store
pub mod mw_step_task
