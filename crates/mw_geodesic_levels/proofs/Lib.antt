-- what other crates may cite
pub mod Nearness
pub mod Rebuilt
-- the crate's own
mod Blocks
mod Raises
mod Rooms
mod Turned
