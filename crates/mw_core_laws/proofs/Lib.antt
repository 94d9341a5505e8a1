-- what other crates may cite
pub mod Curves
pub mod Fresh
pub mod Going
pub mod Later
pub mod Leveled
pub mod Making
pub mod Numbers
pub mod Reading
pub mod Settling
pub mod Truth
pub mod Windows
pub mod Workable
pub mod GivenLemmas
pub mod RefusalLemmas
pub mod AgreeLemmas
pub mod WorkLemmas
pub mod StandsLemmas
pub mod CallLemmas
pub mod CountLemmas
pub mod LimitLemmas
pub mod KeptInputs
pub mod TaskLemmas
pub mod IdleLemmas
pub mod ShownLemmas
-- the crate's own
mod Pictured
mod Flags
mod FateLemmas
mod RunLemmas
-- what lower crates offer
pub use Rattle.mw_store.proofs.mw_model_laws as mw_model_laws
pub use Rattle.mw_store.proofs.mw_plan as mw_plan
pub use Rattle.mw_store.proofs as mw_store
pub use Rattle.mw_store.proofs.mw_step_task as mw_step_task
