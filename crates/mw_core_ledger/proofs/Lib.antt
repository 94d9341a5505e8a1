-- what other crates may cite
pub mod CountLemmas
pub mod SeenLemmas
-- the crate's own
mod Anew
mod OrderLemmas
mod ReadyLemmas
mod Rows
mod SettleLemmas
mod SweepLemmas
mod WorkLemmas
-- what lower crates offer
pub use Rattle.mw_core_tasks.proofs.mw_core_laws as mw_core_laws
pub use Rattle.mw_core_tasks.proofs as mw_core_tasks
