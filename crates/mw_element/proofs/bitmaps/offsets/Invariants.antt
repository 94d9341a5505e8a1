use Rattle.std.proofs.Common.{◌≡◌}
use Rattle.std.specs.Prelude.{vec_capacity}
use Rattle.mw_element.proofs.Rows.{rows_part}
use Rattle.mw_element.proofs.bitmaps.offsets.Given as goal

abbrev pub invariant-rows : goal.invariant-rows
invariant-rows l = record {
  made : l.out.items ≡ rows_part l.bitmap l.ox l.oy 0 l.y;
  room : vec_capacity l.out ≡ l.count;
}
