use Rattle.mw_geodesic_grey.proofs.Passed.{AreClearedTo}
use Rattle.mw_geodesic_grey.proofs.border.clear_run.Given as goal

abbrev pub invariant-loop-i : goal.invariant-loop-i
invariant-loop-i g l = AreClearedTo g.P.Pixel.level l.from l.i l.initial.samples l.samples
