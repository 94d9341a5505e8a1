pub mod Jobs
-- what lower crates offer
pub mod mw_batch
