pub mod Refilled
pub mod Rows
