pub mod Levels
pub mod Pictures
pub mod Runs
