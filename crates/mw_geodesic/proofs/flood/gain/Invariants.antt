use Rattle.mw_geodesic.specs.Floods.{HasGrown}
use Rattle.mw_geodesic.proofs.flood.gain.Given as goal

abbrev pub invariant-loop-i : goal.invariant-loop-i
invariant-loop-i l = HasGrown l.element l.mask l.initial.canvas l.canvas
