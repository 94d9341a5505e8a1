use Rattle.std.proofs.Common.{◌≡◌, take}
use Rattle.mw_rank.specs.Tallies.{count_under}
use Rattle.mw_rank_medians.proofs.cut.count_below.Given as goal

abbrev pub invariant-loop-level : goal.invariant-loop-level
invariant-loop-level l = l.count ≡ count_under l.limit (take l.level-index l.levels)
