-- the crate's own
mod Blocks
mod Differences
mod Parts
mod Halves
mod Marks
mod Tested
