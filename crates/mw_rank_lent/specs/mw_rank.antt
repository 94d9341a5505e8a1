-- What `mw_rank` offers, for the crates above.
pub use Rattle.mw_rank_medians.specs.mw_rank.Ranks
