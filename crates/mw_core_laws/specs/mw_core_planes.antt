-- What `mw_core_planes` offers, for the crates above.
pub use Rattle.mw_core_progress.specs.mw_core_planes.Levels
pub use Rattle.mw_core_progress.specs.mw_core_planes.MadeTiles
