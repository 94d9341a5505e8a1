pub mod Faults
pub mod Seen
pub mod Asked
pub mod PlansOf
pub mod Forms
pub mod Steps
pub mod Tables
-- what lower crates offer
pub mod mw_element
pub mod mw_model_laws
pub mod mw_pixel
pub mod mw_step_task
pub mod mw_tile
