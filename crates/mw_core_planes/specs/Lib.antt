pub mod Levels
pub mod MadeTiles
pub mod StepPlanes
-- what lower crates offer
pub mod mw_model_laws
pub mod mw_plan
pub mod mw_ready
pub mod mw_step_task
pub mod mw_tile
pub mod mw_tile_planes
