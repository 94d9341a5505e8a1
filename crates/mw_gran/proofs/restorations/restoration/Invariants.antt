use Rattle.std.proofs.Common.{◌≡◌, ◌+◌, ◌-◌, ◌*◌, List, length}
use Rattle.mw_model.specs.declared.offsets.Offset.{Offset}
use Rattle.mw_plan.specs.mw_step_task.Meanings.{meaning}
use Rattle.mw_plan.specs.Seen.{source}
use Rattle.mw_gran.specs.Turns.{Restores, Slides}
use Rattle.mw_gran.proofs.restorations.restoration.Given as goal

abbrev pub invariant-loop-done : goal.invariant-loop-done
invariant-loop-done l = record {
  count : length l.plan ≡ l.levels + 1 + 2 * l.done;
  restores : (b : List Offset) → Slides b (meaning l.steps.erode) (meaning l.steps.dilate) → Restores b l.levels (l.levels - l.done) l.done l.plan (source l.restored);
}
