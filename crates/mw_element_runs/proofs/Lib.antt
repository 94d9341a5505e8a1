-- what other crates may cite
pub mod Fewest
pub mod Orders
pub mod RunLists
-- the crate's own
mod Ahead
