-- the crate's own
mod Filtered
mod Gathered
mod InPlace
mod PixelValues
mod Placed
mod Refilled
mod SomeRows
