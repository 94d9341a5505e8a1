pub mod Sizes
pub mod Grown
pub mod Placed
pub mod Works
