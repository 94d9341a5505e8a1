use Rattle.std.proofs.Common.{◌≡◌, ◌≤◌, length}
use Rattle.mw_element.proofs.Rows.{row_part}
use Rattle.mw_element.proofs.bitmaps.count_row.Given as goal

abbrev pub invariant-columns : goal.invariant-columns
invariant-columns l = record {
  made : l.count ≡ length (row_part l.bitmap 0 0 l.y 0 l.x);
  few : l.count ≤ l.x;
}
