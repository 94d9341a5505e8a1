-- the crate's own
mod AuditLemmas
-- what lower crates offer
pub use Rattle.mw_core.proofs.mw_model_laws as mw_model_laws
pub use Rattle.mw_core.proofs.mw_core_laws as mw_core_laws
