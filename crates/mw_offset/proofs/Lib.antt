-- what other crates may cite
pub mod Merges
pub mod Rooms
pub mod Gathers
pub mod Seens
-- the crate's own
mod Parts
mod StripRows
mod Lists
-- what lower crates offer
pub use Rattle.mw_line.proofs as mw_line
pub use Rattle.mw_element_runs.proofs as mw_element_runs
pub use Rattle.mw_line.proofs.mw_pixel_words as mw_pixel_words
