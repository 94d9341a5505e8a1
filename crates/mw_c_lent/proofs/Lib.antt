-- what other crates may cite
pub mod Lessened
pub mod Rows
pub mod Steps
pub mod Written
-- the crate's own
mod Slid
mod InTurn
mod InStrips
mod Stood
mod Narrowed
mod Ranges
mod Views
mod UnderBoxes
