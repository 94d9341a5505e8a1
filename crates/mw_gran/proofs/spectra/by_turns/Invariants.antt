use Rattle.std.proofs.Common.{◌≤◌, ◌+◌, ◌*◌, List, length}
use Rattle.mw_model.specs.declared.offsets.Offset.{Offset}
use Rattle.mw_plan.specs.mw_step_task.Meanings.{meaning}
use Rattle.mw_gran.specs.Turns.{Slides, TellsVolumes}
use Rattle.mw_gran.proofs.spectra.by_turns.Given as goal

abbrev pub invariant-loop-n : goal.invariant-loop-n
invariant-loop-n l = record {
  count : length l.plan ≤ 33 + 34 * l.n;
  tells : (b : List Offset) → Slides b (meaning l.steps.erode) (meaning l.steps.dilate) → TellsVolumes b l.levels l.n l.plan;
}
