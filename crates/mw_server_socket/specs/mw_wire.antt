-- What `mw_wire` offers, for the crates above.
pub use Rattle.mw_wire.specs.Failures
pub use Rattle.mw_wire.specs.Writes
