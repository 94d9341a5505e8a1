-- the crate's own
mod UnderOffsets
mod InBoxes
mod SmallLevels
mod PixelValues
