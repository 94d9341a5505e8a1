use Rattle.mw_rank.proofs.Rows.{rank_filter}
use Rattle.mw_rank.proofs.laws.ranks_are_rank_filter.Goals as goal

pub returns : goal.returns
returns c = rank_filter
