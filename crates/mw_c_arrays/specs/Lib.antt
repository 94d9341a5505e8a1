pub mod Arrays
pub mod Faults
pub mod Sound
pub mod Sources
pub mod Tables
