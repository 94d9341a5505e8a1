pub mod Turns
pub mod Runs
pub mod Answering
pub mod Tallies
pub mod Budgets
-- what lower crates offer
pub mod mw_wire
