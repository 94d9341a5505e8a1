-- what other crates may cite
pub mod Ranked
-- the crate's own
mod Sets
mod Backs
