-- the crate's own
mod Written
mod Marked
-- what lower crates offer
pub use Rattle.mw_wire.proofs as mw_wire
