use Rattle.mw_grid.specs.Counts.{in_range}
use Rattle.mw_ready.specs.Counters.{Lowers}
use Rattle.mw_ready.proofs.reads.lower_row.Given as goal

abbrev pub invariant-loop-task : goal.invariant-loop-task
invariant-loop-task l = Lowers (in_range l.from l.task) l.initial.counts l.counts
