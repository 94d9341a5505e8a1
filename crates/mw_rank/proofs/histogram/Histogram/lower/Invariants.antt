use Rattle.std.proofs.Common.{◌≡◌, ◌≤◌, ◌+◌, ℕ, List}
use Rattle.mw_rank.specs.Tallies.{Tallies, count_under}
use Rattle.mw_rank.proofs.histogram.Histogram.lower.Given as goal

abbrev pub invariant-loop-below : goal.invariant-loop-below
invariant-loop-below l = record {
  place : (top : ℕ) (ns : List ℕ) → Tallies top l.self ns → (l.below ≡ count_under l.level ns) × (l.level ≤ top);
  enough : (top : ℕ) (ns : List ℕ) → Tallies top l.self ns → l.n ≤ l.self.below → l.n ≤ count_under (l.level + 1) ns;
}

abbrev pub decreases-loop-below : goal.decreases-loop-below
decreases-loop-below l = l.level
