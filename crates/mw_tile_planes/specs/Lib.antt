pub mod Tiles
pub mod Held
pub mod Filled
pub mod Views
pub mod Sums
pub use Rattle.mw_tile_slots.specs.Rows
-- what lower crates offer
pub mod mw_pixel
pub mod mw_step_task
pub mod mw_tile
