-- what other crates may cite
pub mod Accepted
pub mod Boxes
pub mod Fitting
pub mod Planes
pub mod Refused
pub mod WindowsFit
-- the crate's own
mod Acting
mod OneImage
-- what lower crates offer
pub use Rattle.mw_model_laws.proofs as mw_model_laws
pub use Rattle.mw_step_task.proofs.mw_tile_pieces as mw_tile_pieces
pub use Rattle.mw_step_task.proofs as mw_step_task
