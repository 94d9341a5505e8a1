pub mod Kept
pub mod Plates
pub mod PlateViews
pub mod ImageShapes
pub mod Entries
pub mod Wanted
pub mod Waiting
pub mod RowRoom
pub mod Stored
pub mod Fetches
-- what lower crates offer
pub mod mw_model_laws
pub mod mw_pixel
pub mod mw_plan
pub mod mw_step_task
pub mod mw_tile
pub mod mw_tile_planes
