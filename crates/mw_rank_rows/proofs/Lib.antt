-- the crate's own
mod Eights
mod Sums
mod Fronts
mod Marked
mod Steps
mod Rectangular
mod Views
mod Found
mod NumberedBlocks
