-- What `mw_model_laws` offers, for the crates above.
pub use Rattle.mw_core_planes.specs.mw_model_laws.MachineLaws
