-- what other crates may cite
pub mod Exclusive
pub mod Lists
pub mod Order
-- the crate's own
mod Boxes
mod Counts
mod Few
mod Found
mod OfBitmaps
mod Rows
mod Room
mod Turned
-- what lower crates offer
pub use Rattle.mw_netpbm_plain.proofs as mw_netpbm_plain
pub use Rattle.mw_netpbm_plain.proofs.mw_pixel as mw_pixel
