use Rattle.std.proofs.Common.{◌+◌, ◌*◌, ◌≤◌, length}
use Rattle.mw_c_layers.specs.Layers.{formula_picture}
use Rattle.mw_c_layers.specs.Parts.{HasImageRows}
use Rattle.mw_c_strips.proofs.writing.put_by_pixel.Given as goal

abbrev pub invariant-loop-y : goal.invariant-loop-y
invariant-loop-y g l = record {
  rows : HasImageRows g.P.Pixel.level (formula_picture l.formula) l.first l.y l.out;
  room : (l.strip.y + l.strip.height) * l.strip.width ≤ l.first * l.strip.width + length l.out;
}
