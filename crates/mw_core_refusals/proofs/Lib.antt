-- the crate's own
mod FoundLemmas
-- what lower crates offer
pub use Rattle.mw_store.proofs.mw_model_laws as mw_model_laws
pub use Rattle.mw_store.proofs.mw_pixel as mw_pixel
pub use Rattle.mw_store.proofs.mw_plan as mw_plan
