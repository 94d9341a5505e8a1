-- What `mw_session_intake` offers, for the crates above.
pub use Rattle.mw_wire.specs.mw_session_intake.Intake
