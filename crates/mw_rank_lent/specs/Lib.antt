pub mod Lines
pub mod Middles
pub mod Sorted
-- what lower crates offer
pub mod mw_rank
pub mod mw_tile
