use Rattle.std.proofs.Common.{◌≡◌, ◌+◌, ◌*◌, List, length}
use Rattle.mw_plan.specs.mw_element.Figures.{FillsBox}
use Rattle.mw_model.specs.declared.offsets.Offset.{Offset}
use Rattle.mw_model.specs.Iterates.{spectrum}
use Rattle.mw_model.specs.Laws.{HoldsOrigin}
use Rattle.mw_gran.specs.Turns.{Tells}
use Rattle.mw_gran.proofs.spectra.by_boxes.Given as goal

abbrev pub invariant-loop-n : goal.invariant-loop-n
invariant-loop-n l = record {
  count : length l.plan ≡ 3 * l.n + 1;
  tells : (b : List Offset) → FillsBox l.offsets b → HoldsOrigin b → Tells l.plan (3 * l.n + 1) (spectrum b l.n);
}
