-- What `mw_session_laws` offers, for the crates above.
pub use Rattle.mw_session_laws.specs.Marks
pub use Rattle.mw_session_laws.specs.Payloads
