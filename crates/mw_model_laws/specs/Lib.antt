pub mod Examples
pub mod MachineLaws
pub mod MachineExamples
