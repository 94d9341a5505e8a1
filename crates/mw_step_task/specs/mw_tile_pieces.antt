-- What `mw_tile_pieces` offers, for the crates above.
pub use Rattle.mw_tile_pieces.specs.Patches
pub use Rattle.mw_tile_pieces.specs.Shared
