pub mod Layers
pub mod Origins
pub mod Parts
