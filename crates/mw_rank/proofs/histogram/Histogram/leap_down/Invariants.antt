use Rattle.std.proofs.Common.{◌≡◌, ◌≤◌, ℕ, List}
use Rattle.mw_rank.specs.Tallies.{Tallies}
use Rattle.mw_rank.proofs.histogram.Histogram.leap_down.Given as goal

abbrev pub invariant-loop-self : goal.invariant-loop-self
invariant-loop-self l = record {
  tallies : (top : ℕ) (ns : List ℕ) → Tallies top l.initial.self ns → Tallies top l.self ns;
  held : l.self.held ≡ l.initial.self.held;
  many : l.n ≤ l.initial.self.below → l.n ≤ l.self.below;
}

abbrev pub decreases-loop-self : goal.decreases-loop-self
decreases-loop-self l = l.self.level
