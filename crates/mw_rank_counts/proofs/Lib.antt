-- what other crates may cite
pub mod Lanes
-- the crate's own
mod Squeezing
mod Counts
mod Joined
mod Narrow
mod Seeking
mod Standing
-- what lower crates offer
pub use Rattle.mw_rank.proofs.mw_pixel as mw_pixel
pub use Rattle.mw_rank.proofs as mw_rank
