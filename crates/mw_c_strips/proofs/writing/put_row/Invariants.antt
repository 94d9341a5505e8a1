use Rattle.std.proofs.Common.{◌+◌, ◌*◌, ◌≤◌, length}
use Rattle.mw_c_layers.specs.Layers.{formula_picture}
use Rattle.mw_c_lent.specs.Rows.{HasCells}
use Rattle.mw_c_strips.proofs.writing.put_row.Given as goal

abbrev pub invariant-loop-x : goal.invariant-loop-x
invariant-loop-x g l = record {
  cells : HasCells g.P.Pixel.level (formula_picture l.formula) (l.first * (formula_picture l.formula).width) (l.y * l.width + l.x) l.out;
  room : (l.y + 1) * l.width ≤ l.first * l.width + length l.out;
}
