pub mod Numbered
pub mod Ahead
pub mod Networks
pub mod Columns
pub mod Squares
pub mod Filled
pub mod Wanted
-- what lower crates offer
pub mod mw_rank
pub mod mw_tile
