pub mod Numbers
pub mod Moves
pub mod Walks
pub mod Elements
-- what lower crates offer
pub mod mw_bits
pub mod mw_line
