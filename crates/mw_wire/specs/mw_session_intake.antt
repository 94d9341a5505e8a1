-- What `mw_session_intake` offers, for the crates above.
pub use Rattle.mw_session_intake.specs.Intake
