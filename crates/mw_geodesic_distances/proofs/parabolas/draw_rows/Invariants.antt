use Rattle.mw_geodesic_distances.specs.Grids.{grid}
use Rattle.mw_geodesic_distances.proofs.Drawn.{IsSquaredTo}
use Rattle.mw_geodesic_distances.proofs.parabolas.draw_rows.Given as goal

abbrev pub invariant-loop-y : goal.invariant-loop-y
invariant-loop-y l = IsSquaredTo l.fn.frame l.fn.top l.y (grid l.fn.frame.width l.initial.numbers) (grid l.fn.frame.width l.numbers)
