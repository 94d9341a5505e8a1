-- the crate's own
mod Answered
mod Asked
mod BitmapElements
mod Meant
mod OneStep
mod Passed
mod Planned
mod Sized
mod Told
