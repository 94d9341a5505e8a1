-- what other crates may cite
pub mod Steps
-- the crate's own
mod Sums
mod Asked
mod Planes
mod Alike
mod States
mod Anew
