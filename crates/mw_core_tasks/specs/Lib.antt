pub mod SourceWindows
pub mod Sides
pub mod Planning
pub mod Results
-- what lower crates offer
pub mod mw_core_planes
pub mod mw_core_progress
pub mod mw_core_laws
pub mod mw_store
pub mod mw_step_task
pub mod mw_tile_planes
