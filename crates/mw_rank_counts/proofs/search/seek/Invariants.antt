use Rattle.mw_rank_counts.specs.Counting.{AreBetween}
use Rattle.mw_rank_counts.proofs.search.seek.Given as goal

abbrev pub invariant-loop-bit : goal.invariant-loop-bit
invariant-loop-bit g l = AreBetween g.P.Pixel.level g.P.Pixel.TOP l.samples l.places l.n l.bit l.found
