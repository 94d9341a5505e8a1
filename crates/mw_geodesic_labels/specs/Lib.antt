pub mod Overwriting
pub mod Painting
pub mod Regions
pub mod Gathering
