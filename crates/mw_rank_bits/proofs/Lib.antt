-- the crate's own
mod Carries
mod Vectors
mod Sums
mod Weights
mod Walks
mod Around
mod Ranked
mod Made
-- what lower crates offer
pub use Rattle.mw_bits.proofs.mw_line as mw_line
