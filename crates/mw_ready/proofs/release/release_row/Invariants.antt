use Rattle.mw_grid.specs.Counts.{in_range}
use Rattle.mw_ready.specs.Counters.{Lowers, SameTiles}
use Rattle.mw_ready.proofs.release.release_row.Given as goal

abbrev pub invariant-loop-task : goal.invariant-loop-task
invariant-loop-task l = record {
  same : SameTiles l.initial.queue l.queue;
  lowers : Lowers (in_range l.from l.task) l.initial.queue.waiting l.queue.waiting;
}
