pub mod Strict
pub mod EndLines
pub mod Batches
