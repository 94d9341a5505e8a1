use Rattle.std.proofs.Common.{◌≡◌, ◌≤◌, ℕ, ◌-◌, ◌<◌, List, length}
use Rattle.mw_rank.specs.Tallies.{Tallies, count_under}
use Rattle.mw_rank.proofs.histogram.Histogram.raise.Given as goal

abbrev pub invariant-loop-level : goal.invariant-loop-level
invariant-loop-level l = record {
  place : (top : ℕ) (ns : List ℕ) → Tallies top l.self ns → (l.below ≡ count_under l.level ns) × (l.level ≤ top);
  few : l.below < l.n;
}

abbrev pub decreases-loop-level : goal.decreases-loop-level
decreases-loop-level l = length l.self.counts.items - l.level
