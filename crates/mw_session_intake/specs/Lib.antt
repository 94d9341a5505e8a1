pub mod Reading
pub mod Cut
pub mod Intake
