pub mod Metrics
pub mod Rows
pub mod Grids
pub mod Columns
pub mod Envelopes
