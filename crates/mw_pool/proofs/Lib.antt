-- the crate's own
mod Fronts
mod Adding
mod Handing
mod KeptLemmas
mod NameLemmas
mod Telling
