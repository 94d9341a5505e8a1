use Rattle.std.specs.List.{AllByRecursion}
use Rattle.mw_core_waves.specs.Jobs.{IsMadeAt}
use Rattle.mw_core_waves.proofs.shared.make_some.Given as goal

abbrev pub invariant-tasks : goal.invariant-tasks
invariant-tasks g l = AllByRecursion (IsMadeAt l.jobs) l.hand.items
