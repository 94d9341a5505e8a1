-- the crate's own
mod Seen
mod Lines
mod Puts
mod Middle
mod Lanes
mod Orders
mod Further
mod Nines
mod Offsets
-- what lower crates offer
pub use Rattle.mw_rank_medians.proofs.mw_rank as mw_rank
