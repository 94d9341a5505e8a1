-- the crate's own
mod BookLemmas
mod FaultLemmas
mod RunLemmas
mod FetchLemmas
mod EventLemmas
mod FilledLemmas
mod TaskLemmas
mod FinishLemmas
mod CostLemmas
mod RunCounts
-- what lower crates offer
pub use Rattle.mw_core_refusals.proofs.mw_model_laws as mw_model_laws
pub use Rattle.mw_core_ledger.proofs.mw_core_laws as mw_core_laws
