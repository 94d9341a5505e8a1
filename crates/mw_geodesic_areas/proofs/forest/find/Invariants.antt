use Rattle.mw_geodesic_areas.proofs.Roots.{Finding}
use Rattle.mw_geodesic_areas.proofs.forest.find.Given as goal

abbrev pub invariant-up : goal.invariant-up
invariant-up l = Finding l.fn.parent l.parent l.i l.at

abbrev pub decreases-up : goal.decreases-up
decreases-up l = l.at
