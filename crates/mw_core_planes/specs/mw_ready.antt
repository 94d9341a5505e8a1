-- What `mw_ready` offers, for the crates above.
pub use Rattle.mw_ready.specs.Boards
pub use Rattle.mw_ready.specs.Work
pub use Rattle.mw_ready.specs.declared
