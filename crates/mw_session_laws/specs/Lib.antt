pub mod Marks
pub mod Payloads
-- what lower crates offer
pub mod mw_session_intake
