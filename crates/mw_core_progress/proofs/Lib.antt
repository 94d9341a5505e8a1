-- what other crates may cite
pub mod Flags
-- the crate's own
mod Cells
mod Fresh
mod Started
mod Boarded
mod Opened
mod Windows
mod Finished
mod Totals
mod Ended
mod Placing
mod Settled
mod Finish
-- what lower crates offer
pub use Rattle.mw_core_planes.proofs.mw_model_laws as mw_model_laws
pub use Rattle.mw_core_planes.proofs.mw_tile_pieces as mw_tile_pieces
pub use Rattle.mw_core_planes.proofs.mw_plan as mw_plan
pub use Rattle.mw_core_planes.proofs.mw_step_task as mw_step_task
pub use Rattle.mw_core_planes.proofs.mw_tile_planes as mw_tile_planes
