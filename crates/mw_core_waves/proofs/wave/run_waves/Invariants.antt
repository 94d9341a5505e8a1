use Rattle.std.proofs.Common.{◌++◌}
use Rattle.std.specs.List.{AllByRecursion}
use Rattle.mw_model.specs.Machine.{Machine}
use Rattle.mw_model.specs.Stands.{CoreView}
use Rattle.mw_core_waves.specs.Jobs.{IsBoundedJob}
use Rattle.mw_core_waves.specs.Waves.{Underway}
use Rattle.mw_core_waves.proofs.wave.run_waves.Given as goal

abbrev pub invariant-turns : goal.invariant-turns
invariant-turns g l =
    ((m : Machine) (old : CoreView) → Underway m old l.fn.core l.fn.jobs.items 1 → Underway m old l.core (l.beside.items ++ l.jobs.items) 1)
    × AllByRecursion IsBoundedJob l.jobs.items
    × AllByRecursion IsBoundedJob l.beside.items
