-- what other crates may cite
pub mod Sides
pub mod Numbers
-- the crate's own
mod Sharing
mod Compared
mod ReadRows
