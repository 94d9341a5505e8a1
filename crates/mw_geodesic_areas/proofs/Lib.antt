-- the crate's own
mod Areas
mod Chained
mod Joins
mod Merges
mod Opened
mod PlainOpenings
mod Planes
mod Rasters
mod Roots
mod Rows
mod Settlings
mod Standings
mod Tallies
