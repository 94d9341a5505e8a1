pub mod Figures
pub mod Told
pub mod Faults
pub mod BitmapElements
-- what lower crates offer
pub mod mw_pixel
