pub mod Payloads
pub mod Tickets
pub mod Rolls
pub mod Handed
pub mod Wakings
-- what lower crates offer
pub mod mw_pool_passes
