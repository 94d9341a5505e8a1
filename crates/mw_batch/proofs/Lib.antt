-- the crate's own
mod Served
