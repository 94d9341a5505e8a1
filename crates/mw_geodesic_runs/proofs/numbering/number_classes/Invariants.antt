use Rattle.mw_geodesic_runs.specs.Forests.{NumbersClasses}
use Rattle.mw_geodesic_runs.proofs.numbering.number_classes.Given as goal

abbrev pub invariant-loop-i : goal.invariant-loop-i
invariant-loop-i l = NumbersClasses l.fn.parent l.i l.parent l.count
