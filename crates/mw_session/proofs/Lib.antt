-- what other crates may cite
pub mod Stops
-- the crate's own
mod Turns
mod Chains
mod Answering
mod Covering
