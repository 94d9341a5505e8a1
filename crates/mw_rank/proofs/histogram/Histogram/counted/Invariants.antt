use Rattle.std.proofs.Common.{◌≡◌, ℕ, ◌+◌, List}
use Rattle.mw_rank.specs.Tallies.{count_under, Tallies}
use Rattle.mw_rank.proofs.histogram.Histogram.counted.Given as goal

abbrev pub invariant-loop-count : goal.invariant-loop-count
invariant-loop-count l = (top : ℕ) (ns : List ℕ) → Tallies top l.self ns → l.sum + count_under l.from ns ≡ count_under (l.from + l.count-index) ns
