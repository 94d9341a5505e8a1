use Rattle.std.proofs.Common.{◌≡◌, ◌++◌}
use Rattle.std.specs.Prelude.{vec_capacity}
use Rattle.mw_element.proofs.Rows.{row_part}
use Rattle.mw_element.proofs.bitmaps.push_row.Given as goal

abbrev pub invariant-columns : goal.invariant-columns
invariant-columns l = record {
  made : l.out.items ≡ l.fn.out.items ++ row_part l.bitmap l.ox l.oy l.y 0 l.x;
  kept : vec_capacity l.out ≡ vec_capacity l.fn.out;
}
