-- what other crates may cite
pub mod Bits
pub mod Done
pub mod Funnels
pub mod Fronts
-- the crate's own
mod Trims
mod Copies
mod Compared
mod Filled
