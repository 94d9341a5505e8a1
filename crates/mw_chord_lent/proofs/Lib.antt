-- the crate's own
mod Puts
mod Grows
mod Gathers
mod Places
mod Works
