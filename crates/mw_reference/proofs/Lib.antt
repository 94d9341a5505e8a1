-- the crate's own
mod Iterates
mod Loops
mod Ranks
