use Rattle.std.proofs.Common.{◌≡◌, ℕ, List, ◌-◌, ◌<◌, length}
use Rattle.mw_rank.specs.Tallies.{Tallies}
use Rattle.mw_rank.proofs.histogram.Histogram.leap_up.Given as goal

abbrev pub invariant-loop-self : goal.invariant-loop-self
invariant-loop-self l = record {
  tallies : (top : ℕ) (ns : List ℕ) → Tallies top l.initial.self ns → Tallies top l.self ns;
  held : l.self.held ≡ l.initial.self.held;
  few : l.self.below < l.n;
  size : length l.self.counts.items ≡ length l.initial.self.counts.items;
}

abbrev pub decreases-loop-self : goal.decreases-loop-self
decreases-loop-self l = length l.self.counts.items - l.self.level
