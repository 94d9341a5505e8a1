pub mod Problems
pub mod Seen
pub mod Forests
pub mod Chains
pub mod Classes
pub mod Plain
