-- what other crates may cite: all of it
pub mod Alls
pub mod Counts
pub mod Elements
pub mod Finds
pub mod Merged
pub mod Numbers
pub mod Parts
pub mod Positions
pub mod Ranges
pub mod Tests
