use Rattle.mw_geodesic.specs.Floods.{HasGrown}
use Rattle.mw_geodesic.proofs.flood.sweep_down.Given as goal

abbrev pub invariant-loop-x : goal.invariant-loop-x
invariant-loop-x l = HasGrown l.element l.mask l.fn.canvas l.canvas

abbrev pub invariant-loop-y : goal.invariant-loop-y
invariant-loop-y l = HasGrown l.element l.mask l.fn.canvas l.canvas
