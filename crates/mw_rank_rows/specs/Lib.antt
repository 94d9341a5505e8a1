pub mod Lanes
pub mod Columns
pub mod Tables
pub mod Rectangles
pub mod Blocks
-- what lower crates offer
pub mod mw_rank
