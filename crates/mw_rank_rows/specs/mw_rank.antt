-- What `mw_rank` offers, for the crates above.
pub use Rattle.mw_rank_counts.specs.mw_rank.Ranks
