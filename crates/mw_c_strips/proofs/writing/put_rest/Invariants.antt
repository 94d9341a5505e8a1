use Rattle.std.proofs.Common.{◌-◌, ◌≤◌, length}
use Rattle.mw_c_layers.specs.Layers.{formula_picture}
use Rattle.mw_c_layers.specs.Parts.{HasImageRows}
use Rattle.mw_c_strips.specs.Rows.{EndAt}
use Rattle.mw_c_strips.proofs.writing.put_rest.Given as goal

abbrev pub invariant-strips : goal.invariant-strips
invariant-strips g l = record {
  rows : HasImageRows g.P.Pixel.level (formula_picture l.formula) l.first l.done l.out;
  ends : EndAt l.first l.end (length l.out) (formula_picture l.formula);
  behind : l.first ≤ l.done;
  within : l.done ≤ l.end;
}

abbrev pub decreases-strips : goal.decreases-strips
decreases-strips g l = l.end - l.done
