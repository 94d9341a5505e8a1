-- What `mw_lane` offers, for the crates above.
pub use Rattle.mw_offset.specs.mw_lane.Shifted
