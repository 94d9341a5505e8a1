-- the crate's own
mod NearRuns
mod SeenRuns
mod SlidBoxes
mod LevelRows
mod NarrowRows
mod Pairings
mod HeldRows
mod UniformSeen
mod UniformWords
-- what lower crates offer
pub use Rattle.mw_offset.proofs.mw_line as mw_line
pub use Rattle.mw_offset.proofs.mw_pixel_words as mw_pixel_words
