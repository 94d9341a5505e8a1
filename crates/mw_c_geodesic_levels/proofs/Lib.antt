-- the crate's own
mod AreaImages
mod Changed
mod Planes
