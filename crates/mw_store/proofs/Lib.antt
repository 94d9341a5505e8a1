-- what other crates may cite
pub mod CascadeLemmas
pub mod PlaceLemmas
-- the crate's own
mod AddLemmas
mod Counting
mod Elements
mod Living
mod Tracking
-- what lower crates offer
pub use Rattle.mw_tile_planes.proofs.mw_element as mw_element
pub use Rattle.mw_gran.proofs.mw_model_laws as mw_model_laws
pub use Rattle.mw_tile_planes.proofs.mw_pixel as mw_pixel
pub use Rattle.mw_gran.proofs.mw_plan as mw_plan
pub use Rattle.mw_tile_planes.proofs.mw_step_task as mw_step_task
