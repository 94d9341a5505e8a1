use Rattle.std.proofs.Common.{◌≡◌, ◌+◌, ◌*◌, List, length}
use Rattle.mw_model.specs.declared.offsets.Offset.{Offset}
use Rattle.mw_plan.specs.mw_step_task.Meanings.{meaning}
use Rattle.mw_gran.specs.Turns.{MarksResidues, Slides, steps_to_marks}
use Rattle.mw_gran.proofs.skeletons.skeleton.Given as goal

abbrev pub invariant-loop-n : goal.invariant-loop-n
invariant-loop-n l = record {
  count : length l.plan + steps_to_marks l.last ≡ l.levels + 2 * l.n + 1;
  marks : (b : List Offset) → Slides b (meaning l.steps.erode) (meaning l.steps.dilate) → MarksResidues b l.levels l.n l.plan l.last;
}
