-- what other crates may cite
pub mod Made
pub mod Sides
pub mod TileTotals
-- the crate's own
mod Filled
mod Windows
mod Summed
-- what lower crates offer
pub use Rattle.mw_step_task.proofs.mw_element as mw_element
pub use Rattle.mw_step_task.proofs.mw_pixel as mw_pixel
pub use Rattle.mw_step_task.proofs as mw_step_task
