pub mod Costs
pub mod TaskAnswers
pub mod EventEffects
-- what lower crates offer
pub mod mw_model_laws
pub mod mw_core_laws
pub mod mw_store
pub mod mw_step_task
pub mod mw_plan
