use Rattle.mw_step_task.specs.Meanings.{meaning}
use Rattle.mw_step_task.specs.WindowTasks.{IsRead}
use Rattle.mw_step_task.proofs.AllOf.{AllIsRest}
use Rattle.mw_step_task.proofs.reads.all_read.Given as goal

abbrev pub invariant-loop-window : goal.invariant-loop-window
invariant-loop-window l = AllIsRest (IsRead (meaning l.step) l.tile l.width l.height) l.windows l.window-index
