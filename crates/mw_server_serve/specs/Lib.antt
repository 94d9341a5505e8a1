pub mod Services
-- what lower crates offer
pub mod mw_batch
pub mod mw_wire
