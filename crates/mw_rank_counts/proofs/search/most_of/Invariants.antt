use Rattle.std.proofs.Common.{ℕ, ◌+◌, ◌<◌, ◌≤◌, get_or}
use Rattle.mw_rank_counts.proofs.search.most_of.Given as goal

abbrev pub invariant-loop-sample : goal.invariant-loop-sample
invariant-loop-sample g l = record {
  most : (i : ℕ) → i < l.sample-index → g.P.Pixel.level (get_or l.samples i g.P.Pixel.TOP) < l.most + 1;
  small : l.most ≤ g.P.Pixel.top_level;
}
