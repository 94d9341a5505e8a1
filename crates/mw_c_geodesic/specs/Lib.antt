pub mod Alike
pub mod CallFaults
pub mod Changes
pub mod DistanceCalls
pub mod Methods
pub mod Regions
pub mod Sides
pub mod Told
