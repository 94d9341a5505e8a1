-- the crate's own
mod Counts
mod Lowering
mod Numbers
mod Boxes
mod Keeping
mod Firsts
mod Raising
mod ReaderCounts
mod Joining
mod Spanning
mod Tied
