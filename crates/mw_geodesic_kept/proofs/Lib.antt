-- the crate's own
mod Edges
mod Flips
mod Kept
mod Looking
mod Marking
mod Rebuilt
mod Results
mod ShownLarge
mod Writing
