-- the crate's own
mod NeedLists
mod Swept
mod Rows
mod Sources
mod Totals
-- what lower crates offer
pub use Rattle.mw_plan.proofs.mw_model_laws as mw_model_laws
pub use Rattle.mw_plan.proofs.mw_tile_pieces as mw_tile_pieces
pub use Rattle.mw_plan.proofs as mw_plan
pub use Rattle.mw_plan.proofs.mw_step_task as mw_step_task
pub use Rattle.mw_tile_planes.proofs as mw_tile_planes
