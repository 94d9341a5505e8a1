-- the crate's own
mod Dropping
mod Frames
mod Inputs
mod Steps
