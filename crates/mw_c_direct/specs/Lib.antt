pub mod Kept
pub mod Products
pub mod Runs
pub mod Values
