-- what other crates may cite
pub mod Bounded
pub mod Boxes
pub mod Cut
-- the crate's own
mod AllOf
-- what lower crates offer
pub use Rattle.mw_element.proofs as mw_element
pub use Rattle.mw_tile_pieces.proofs as mw_tile_pieces
pub use Rattle.mw_element.proofs.mw_pixel as mw_pixel
pub use Rattle.mw_tile_pieces.proofs.mw_tile as mw_tile
pub use Rattle.mw_tile_pieces.proofs.mw_pixel_words as mw_pixel_words
