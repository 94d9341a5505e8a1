-- the crate's own
mod Begun
mod Drawn
mod Envelopes
mod Erosions
mod Gaps
mod Heights
mod Lists
mod Lowered
mod Nearness
mod Results
mod Squares
mod Swept
