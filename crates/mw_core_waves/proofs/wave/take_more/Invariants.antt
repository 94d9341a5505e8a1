use Rattle.std.proofs.Common.{List, ◌+◌, ◌≤◌, ◌++◌}
use Rattle.std.specs.Prelude.{vec_len, vec_capacity}
use Rattle.std.specs.List.{AllByRecursion}
use Rattle.mw_model.specs.Machine.{Machine}
use Rattle.mw_model.specs.Stands.{CoreView}
use Rattle.mw_core_waves.specs.declared.job.WaveTask.{WaveTask}
use Rattle.mw_core_waves.specs.Jobs.{IsBoundedJob}
use Rattle.mw_core_waves.specs.Waves.{Underway}
use Rattle.mw_core_waves.proofs.wave.take_more.Given as goal

abbrev pub invariant-tasks : goal.invariant-tasks
invariant-tasks g l =
    ((m : Machine) (old : CoreView) (others : List WaveTask) → Underway m old l.fn.core (others ++ l.initial.jobs.items) 1 → Underway m old l.core (others ++ l.jobs.items) 1)
    × (vec_len l.jobs + l.size.most ≤ vec_capacity l.jobs + l._taken)
    × AllByRecursion IsBoundedJob l.jobs.items
