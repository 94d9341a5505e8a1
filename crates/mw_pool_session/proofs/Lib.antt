-- what other crates may cite
pub mod Sessions
-- the crate's own
mod Texts
