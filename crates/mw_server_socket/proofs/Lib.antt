-- the crate's own
mod Closings
