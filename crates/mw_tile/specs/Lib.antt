pub mod Windows
pub mod Cuts
pub mod AnyWindows
-- what lower crates offer
pub mod mw_pixel
pub mod mw_pixel_words
