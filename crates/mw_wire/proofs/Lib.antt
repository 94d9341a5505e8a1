-- what other crates may cite
pub mod Writing
pub mod Chains
-- the crate's own
mod Rooms
mod Ends
mod Serving
