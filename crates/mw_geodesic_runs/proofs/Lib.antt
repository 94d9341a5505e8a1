-- what other crates may cite
pub mod Cuts
pub mod Found
pub mod Joinings
pub mod RowsOfAll
-- the crate's own
mod ChangedPlaces
mod Classes
mod LowBits
mod Meetings
mod Numbered
mod Sides
mod Tallies
mod TwoRows
mod UnitedRows
