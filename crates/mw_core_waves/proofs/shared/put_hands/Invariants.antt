use Rattle.std.specs.List.{AllByRecursion, AllZip}
use Rattle.mw_core_waves.specs.Jobs.{HandIsMade, IsKept}
use Rattle.mw_core_waves.proofs.shared.put_hands.Given as goal

abbrev pub invariant-loop-hand : goal.invariant-loop-hand
invariant-loop-hand l = AllZip IsKept l.fn.jobs l.jobs × AllByRecursion (HandIsMade l.fn.jobs) l.hand-iterator.rest.items
