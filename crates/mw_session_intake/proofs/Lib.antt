-- what other crates may cite
pub mod Front
pub mod Tidy
-- the crate's own
mod Feeds
mod Fields
mod LineLaws
mod Misses
mod SaidLines
