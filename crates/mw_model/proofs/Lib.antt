-- what other crates may cite
pub mod Covers
pub mod CurveLaws
pub mod Extrema
pub mod ImageLaws
pub mod ImageOrder
pub mod ImagePlaces
pub mod Iterated
pub mod Nonnegative
pub mod Ranks
pub mod RisingOrder
pub mod SkeletonLaws
pub mod Spellings
-- what lower crates offer
pub use Rattle.mw_facts.proofs as mw_facts
