-- What `mw_wire` offers, for the crates above.
pub use Rattle.mw_session_fetch.specs.mw_wire.Failures
pub use Rattle.mw_session_fetch.specs.mw_wire.Faults
pub use Rattle.mw_session_fetch.specs.mw_wire.Rooms
pub use Rattle.mw_session_fetch.specs.mw_wire.Writes
pub use Rattle.mw_session_fetch.specs.mw_wire.declared
