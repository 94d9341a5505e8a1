-- what other crates may cite
pub mod Borders
pub mod Complements
pub mod Components
pub mod Covered
pub mod DrawnSamples
pub mod Duality
pub mod Geodesic
pub mod LargeComponents
pub mod Markings
pub mod Maxima
pub mod NeighbourLemmas
pub mod OpeningLaws
pub mod Raised
pub mod Reconstructed
pub mod Uniqueness
-- the crate's own
mod Opposites
