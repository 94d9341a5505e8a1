pub mod Checks
pub mod Faults
pub mod Found
-- what lower crates offer
pub mod mw_model_laws
pub mod mw_pixel
pub mod mw_plan
pub mod mw_store
pub mod mw_step_task
pub mod mw_tile_planes
