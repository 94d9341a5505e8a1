use Rattle.std.proofs.Common.{List, ◌++◌}
use Rattle.std.specs.List.{AllByRecursion}
use Rattle.mw_model.specs.Machine.{Machine}
use Rattle.mw_model.specs.Stands.{CoreView}
use Rattle.mw_core_waves.specs.declared.job.WaveTask.{WaveTask}
use Rattle.mw_core_waves.specs.Jobs.{IsBoundedJob}
use Rattle.mw_core_waves.specs.Waves.{Underway}
use Rattle.mw_core_waves.proofs.wave.hand_all.Given as goal

abbrev pub invariant-loop-job : goal.invariant-loop-job
invariant-loop-job l =
    ((m : Machine) (old : CoreView) (others : List WaveTask) → Underway m old l.fn.core (l.fn.jobs.items ++ others) 1 → Underway m old l.core (l.job-iterator.rest.items ++ others) 1)
    × AllByRecursion IsBoundedJob l.job-iterator.rest.items
