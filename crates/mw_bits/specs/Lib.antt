pub mod Layouts
pub mod Tiles
pub mod Uniform
pub mod Waiting
-- what lower crates offer
pub mod mw_lane
pub mod mw_line
pub mod mw_element_runs
pub mod mw_pixel_words
