-- the crate's own
mod Images
mod Levels
mod Painted
mod PlaceByPlace
mod OfTasks
mod SameMembers
mod SetRanks
mod Shared
mod Slid
