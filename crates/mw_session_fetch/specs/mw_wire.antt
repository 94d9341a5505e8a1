-- What `mw_wire` offers, for the crates above.
pub use Rattle.mw_wire.specs.Chains
pub use Rattle.mw_wire.specs.Failures
pub use Rattle.mw_wire.specs.Faults
pub use Rattle.mw_wire.specs.Rooms
pub use Rattle.mw_wire.specs.Runs
pub use Rattle.mw_wire.specs.Writes
pub use Rattle.mw_wire.specs.declared
