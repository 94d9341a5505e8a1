use Rattle.std.proofs.Common.{◌+◌, ◌-◌, ◌<◌, ◌≤◌}
use Rattle.mw_rank.specs.Tallies.{count_under}
use Rattle.mw_rank_medians.proofs.cut.halved.Given as goal

abbrev pub invariant-halving : goal.invariant-halving
invariant-halving l = record {
  order : l.low < l.end;
  small : l.end ≤ l.top + 1;
  few : count_under l.low l.levels < l.n;
  enough : l.n ≤ count_under l.end l.levels;
}

abbrev pub decreases-halving : goal.decreases-halving
decreases-halving l = l.end - l.low
