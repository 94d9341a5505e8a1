-- What `mw_rank` offers, for the crates above.
pub use Rattle.mw_rank.specs.Ranks
pub use Rattle.mw_rank.specs.Runs
pub use Rattle.mw_rank.specs.Tallies
