pub mod Reading
pub mod Heading
pub mod Plain
pub mod PlainSamples
pub mod Short
pub mod Tallies
pub mod Whole
pub mod Faults
pub mod SetWords
-- what lower crates offer
pub mod mw_pixel
pub mod mw_pixel_words
