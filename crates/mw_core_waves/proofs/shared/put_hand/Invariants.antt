use Rattle.std.specs.List.{AllByRecursion, AllZip}
use Rattle.mw_core_waves.specs.Jobs.{IsKept, IsMadeAt}
use Rattle.mw_core_waves.proofs.shared.put_hand.Given as goal

abbrev pub invariant-loop-made : goal.invariant-loop-made
invariant-loop-made l = AllZip IsKept l.fn.jobs l.jobs × AllByRecursion (IsMadeAt l.fn.jobs) l.made-iterator.rest.items
