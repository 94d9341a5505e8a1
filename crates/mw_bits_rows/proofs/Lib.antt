-- what other crates may cite
pub mod Packs
pub mod Counts
pub mod Paddings
pub mod Laid
pub mod FilledMargins
-- the crate's own
mod FunnelPairs
