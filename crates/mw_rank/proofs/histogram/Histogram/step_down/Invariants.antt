use Rattle.std.proofs.Common.{◌≡◌, ◌≤◌, ◌+◌, ℕ, List}
use Rattle.mw_rank.specs.Tallies.{Tallies, count_under}
use Rattle.mw_rank.proofs.histogram.Histogram.step_down.Given as goal

abbrev pub invariant-levels : goal.invariant-levels
invariant-levels l = record {
  place : (top : ℕ) (ns : List ℕ) → Tallies top l.self ns → (l.below ≡ count_under l.level ns) × (l.level ≤ top);
  enough : (top : ℕ) (ns : List ℕ) → Tallies top l.self ns → l.n ≤ l.self.below → l.n ≤ count_under (l.level + 1) ns;
}
