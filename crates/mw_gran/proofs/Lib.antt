-- the crate's own
mod Actions
mod BoxBounds
mod CurveTexts
mod Iterates
mod Meaning
mod MultipliedBoxes
mod OneMore
mod Origins
mod Planes
mod StepPlanes
mod Turns
-- what lower crates offer
pub use Rattle.mw_plan.proofs.mw_model_laws as mw_model_laws
pub use Rattle.mw_plan.proofs as mw_plan
