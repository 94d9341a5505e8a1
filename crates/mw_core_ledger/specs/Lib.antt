pub mod Books
pub mod Changes
pub mod Counts
pub mod Short
pub mod Tasks
-- what lower crates offer
pub mod mw_core_planes
pub mod mw_core_progress
pub mod mw_core_laws
pub mod mw_core_tasks
