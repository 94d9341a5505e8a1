use Rattle.std.proofs.Common.{◌≡◌, ℕ, ◌+◌, List, length}
use Rattle.mw_model.specs.declared.offsets.Offset.{Offset}
use Rattle.mw_model.specs.Flat.{dilation, reflected}
use Rattle.mw_model.specs.Iterates.{times}
use Rattle.mw_model.specs.Pictures.{Picture, IsPicture}
use Rattle.mw_plan.specs.mw_step_task.Meanings.{meaning}
use Rattle.mw_plan.specs.Seen.{source}
use Rattle.mw_gran.specs.Growing.{ShowsOperator}
use Rattle.mw_gran.specs.Turns.{Slides, StillShown, Tells}
use Rattle.mw_gran.proofs.spectra.dilated.Given as goal

abbrev pub invariant-loop-done : goal.invariant-loop-done
invariant-loop-done l = record {
  count : length l.plan ≡ length l.fn.plan + l._done;
  kept : StillShown l.fn.plan l.plan;
  grown : (b : List Offset) (count : ℕ) (numbers : Picture → List ℕ) (before : Picture → Picture) → Slides b (meaning l.steps.erode) (meaning l.steps.dilate) → Tells l.fn.plan count numbers
      → ShowsOperator IsPicture l.fn.plan (source l.fn.from) before
      → Tells l.plan (count + l._done) numbers × ShowsOperator IsPicture l.plan (source l.grown) (λ f. times l._done (dilation (reflected b)) (before f));
}
