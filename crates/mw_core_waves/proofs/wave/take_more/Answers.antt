use Rattle.std.proofs.Common.{◌++◌, arith}
use Rattle.mw_core_waves.proofs.wave.take_more.Goals as goal
use Rattle.mw_core_waves.proofs.wave.take_more.Goals.{in-Work, in-Refused}

pub tasks-preserved : goal.tasks-preserved
tasks-preserved g c = elim c.match-start_next.branch [
  | in-Work w ↦ (
    λ m old others u. rw (w.core-is, w.jobs-is) (w.keep_or_run.ensures.underway m old others (w.in-Work.ensures.took m old (others ++ c.tasks.jobs.items) 1 (c.tasks.invariant.0 m old others u))),
    rw w.jobs-is (omega (arith, w.keep_or_run.ensures.one, w.keep_or_run.ensures.capacity, c.tasks.invariant.1)),
    rw w.jobs-is w.keep_or_run.ensures.jobs,
  )
  | in-Refused w ↦ (
    λ m old others u. rw (w.core-is, w.jobs-is) (w.in-Refused.ensures.took m old (others ++ c.tasks.jobs.items) 1 (c.tasks.invariant.0 m old others u)),
    rw w.jobs-is (omega (arith, c.tasks.invariant.1)),
    rw w.jobs-is c.tasks.invariant.2,
  )
]
