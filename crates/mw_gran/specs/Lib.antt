pub mod Boxes
pub mod Growing
pub mod Turns
pub mod Sizes
-- what lower crates offer
pub mod mw_model_laws
pub mod mw_plan
