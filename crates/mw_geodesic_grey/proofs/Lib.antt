-- the crate's own
mod Duals
mod Edges
mod Marked
mod Passed
mod Redrawn
