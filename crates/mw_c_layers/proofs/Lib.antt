-- what other crates may cite
pub mod OriginImages
pub mod Formulas
pub mod RowCells
-- the crate's own
mod Cutting
mod Standing
-- what lower crates offer
pub use Rattle.mw_tile_pieces.proofs as mw_tile_pieces
