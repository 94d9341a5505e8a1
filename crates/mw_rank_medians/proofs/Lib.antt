-- what other crates may cite
pub mod Sums
pub mod Squares
pub mod Medians
pub mod Beyond
-- the crate's own
mod Tests
mod Lanes
mod Further
mod Orders
mod Merges
mod Columns
mod Joined
mod Gathered
-- what lower crates offer
pub use Rattle.mw_rank.proofs as mw_rank
