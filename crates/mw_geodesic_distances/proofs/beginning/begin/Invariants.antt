use Rattle.mw_geodesic_distances.specs.Grids.{grid}
use Rattle.mw_geodesic_distances.proofs.Begun.{IsBegunTo}
use Rattle.mw_geodesic_distances.proofs.beginning.begin.Given as goal

abbrev pub invariant-loop-y : goal.invariant-loop-y
invariant-loop-y l = IsBegunTo l.top l.set.width l.set.height l.y (grid l.set.width l.set.cells) (grid l.set.width l.numbers)
