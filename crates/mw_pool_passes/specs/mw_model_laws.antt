-- What `mw_model_laws` offers, for the crates above.
pub use Rattle.mw_core.specs.mw_model_laws.MachineLaws
