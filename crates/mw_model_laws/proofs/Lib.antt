-- what other crates may cite
pub mod BoxLaws
pub mod Composed
pub mod RunCascade
pub mod RunGrowth
pub mod RunReplay
pub mod RunShapes
pub mod RunStates
pub mod RunSteps
pub mod RunTables
pub mod RunValues
pub mod RunWaiting
-- the crate's own
mod ResidueLaws
mod RunExamples
mod RunLimits
mod RunReach
mod RunSettling
mod SampleMaps
mod SetLaws
