pub mod Patches
pub mod Shared
pub mod Blocks
pub mod Laid
-- what lower crates offer
pub mod mw_tile
pub mod mw_pixel_words
