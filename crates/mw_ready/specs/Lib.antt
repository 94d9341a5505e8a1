pub mod Boards
pub mod Work
pub mod Counters
pub mod Kept
pub mod Links
pub mod Spans
