use Rattle.mw_geodesic.proofs.DrawnSamples.{IsDrawnTo}
use Rattle.mw_geodesic.proofs.drawings.redraw.Given as goal

abbrev pub invariant-loop-x : goal.invariant-loop-x
invariant-loop-x g l = IsDrawnTo (g.D.Drawing.value l.drawing) l.like l.canvas l.y l.x

abbrev pub invariant-loop-y : goal.invariant-loop-y
invariant-loop-y g l = IsDrawnTo (g.D.Drawing.value l.drawing) l.like l.canvas l.y 0
