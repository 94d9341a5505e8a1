use Rattle.std.proofs.Common.{◌≡◌, map, take}
use Rattle.mw_core_planes.specs.declared.step_planes.StepPlane.TheVariants.{Closed}
use Rattle.mw_core_planes.proofs.step_planes.closed.Given as goal

abbrev pub invariant-loop-level : goal.invariant-loop-level
invariant-loop-level l = l.places.items ≡ map Closed (take l.level-index l.levels)
