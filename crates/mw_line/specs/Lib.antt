pub mod Line
pub mod Sides
pub mod Extrema
pub mod Columns
pub mod Cells
pub mod Slides
-- what lower crates offer
pub mod mw_lane
pub mod mw_tile
pub mod mw_pixel_words
