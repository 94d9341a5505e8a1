-- What `mw_core_planes` offers, for the crates above.
pub use Rattle.mw_core_planes.specs.Levels
pub use Rattle.mw_core_planes.specs.MadeTiles
