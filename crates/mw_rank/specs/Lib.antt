pub mod Ranks
pub mod Runs
pub mod Tallies
pub mod Ends
-- what lower crates offer
pub mod mw_element_runs
pub mod mw_tile
