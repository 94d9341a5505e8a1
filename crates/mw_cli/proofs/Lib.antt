-- the crate's own
mod CommandReads
