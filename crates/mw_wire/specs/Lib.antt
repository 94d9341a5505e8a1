pub mod Writes
pub mod Faults
pub mod Failures
pub mod Rooms
pub mod Chains
pub mod Runs
-- what lower crates offer
pub mod mw_session_intake
