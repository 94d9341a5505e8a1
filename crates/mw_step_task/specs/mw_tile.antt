-- What `mw_tile` offers, for the crates above.
pub use Rattle.mw_tile_pieces.specs.mw_tile.Cuts
pub use Rattle.mw_tile_pieces.specs.mw_tile.Windows
