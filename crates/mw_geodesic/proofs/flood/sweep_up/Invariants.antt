use Rattle.mw_geodesic.specs.Floods.{HasGrown}
use Rattle.mw_geodesic.proofs.flood.sweep_up.Given as goal

abbrev pub invariant-loop-column : goal.invariant-loop-column
invariant-loop-column l = HasGrown l.element l.mask l.fn.canvas l.canvas

abbrev pub invariant-loop-row : goal.invariant-loop-row
invariant-loop-row l = HasGrown l.element l.mask l.fn.canvas l.canvas
