pub mod Counts
pub mod Grids
pub mod Rectangles
pub mod Blocks
