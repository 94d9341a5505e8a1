pub mod Work
pub mod Jobs
pub mod Waves
-- what lower crates offer
pub mod mw_session_intake
pub mod mw_session_laws
pub mod mw_core
pub mod mw_core_laws
