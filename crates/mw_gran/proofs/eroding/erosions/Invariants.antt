use Rattle.std.proofs.Common.{◌≡◌, List, length}
use Rattle.mw_model.specs.declared.offsets.Offset.{Offset}
use Rattle.mw_plan.specs.mw_step_task.Meanings.{meaning}
use Rattle.mw_gran.specs.Turns.{Erodes, Slides}
use Rattle.mw_gran.proofs.eroding.erosions.Given as goal

abbrev pub invariant-loop-done : goal.invariant-loop-done
invariant-loop-done l = record {
  count : length l.plan ≡ l.done;
  erodes : (b : List Offset) → Slides b (meaning l.steps.erode) (meaning l.steps.dilate) → Erodes b l.done l.plan;
}
