-- What `mw_model_laws` offers, for the crates above.
pub use Rattle.mw_core_refusals.specs.mw_model_laws.MachineLaws
