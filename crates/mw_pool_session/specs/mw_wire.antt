-- What `mw_wire` offers, for the crates above.
pub use Rattle.mw_session_fetch.specs.mw_wire.Failures
pub use Rattle.mw_session_fetch.specs.mw_wire.Writes
