-- the crate's own
mod Splits
