use Rattle.std.proofs.Common.{◌≡◌, ◌+◌, ◌<◌, length, take}
use Rattle.mw_rank.specs.Tallies.{count_under}
use Rattle.mw_rank_medians.proofs.cut.greatest.Given as goal

abbrev pub invariant-loop-level : goal.invariant-loop-level
invariant-loop-level l = record {
  few : count_under l.greatest l.levels < length l.levels;
  enough : count_under (l.greatest + 1) (take l.level-index l.levels) ≡ l.level-index;
}
