pub mod Errors
pub mod Texts
-- what lower crates offer
pub mod mw_session_intake
pub mod mw_store
pub mod mw_wire
