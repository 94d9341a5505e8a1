pub mod Runs
pub mod Changes
pub mod Rows
pub mod Forests
pub mod Touching
pub mod Components
