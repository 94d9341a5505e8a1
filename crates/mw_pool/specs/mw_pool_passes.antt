-- What `mw_pool_passes` offers, for the crates above.
pub use Rattle.mw_pool_passes.specs.Passes
