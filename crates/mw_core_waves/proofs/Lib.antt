-- what other crates may cite
pub mod TicketCounts
-- the crate's own
mod Totals
mod Jobs
mod Waving
mod Turning
-- what lower crates offer
pub use Rattle.mw_session_laws.proofs.mw_session_intake as mw_session_intake
pub use Rattle.mw_session_laws.proofs.mw_model_laws as mw_model_laws
pub use Rattle.mw_session_laws.proofs as mw_session_laws
pub use Rattle.mw_core.proofs.mw_core_laws as mw_core_laws
