pub mod Meanings
pub mod WindowTasks
pub mod Products
pub mod Sources
-- what lower crates offer
pub mod mw_element
pub mod mw_tile_pieces
pub mod mw_pixel
pub mod mw_tile
pub mod mw_pixel_words
