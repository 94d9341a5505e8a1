-- the crate's own
mod SessionPasses
