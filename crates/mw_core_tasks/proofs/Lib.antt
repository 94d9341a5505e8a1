-- what other crates may cite
pub mod PlannedAtLemmas
pub mod FreshLemmas
pub mod SourceTrueLemmas
pub mod PlanTaskLemmas
pub mod ResultLemmas
-- the crate's own
mod AllowedLemmas
mod PlanningLemmas
mod PlannedByLemmas
mod WorkableLemmas
mod InputLemmas
mod AcceptedLemmas
mod ReadingLemmas
-- what lower crates offer
pub use Rattle.mw_core_laws.proofs as mw_core_laws
pub use Rattle.mw_core_laws.proofs.mw_store as mw_store
