-- what other crates may cite
pub mod Working
pub mod Finishing
-- the crate's own
mod Readings
mod Fronts
-- what lower crates offer
pub use Rattle.mw_session_intake.proofs as mw_session_intake
pub use Rattle.mw_model_laws.proofs as mw_model_laws
