pub mod Tiles
pub mod Shares
pub mod Rows
