-- the crate's own
mod Spans
mod Nodes
mod Leaves
