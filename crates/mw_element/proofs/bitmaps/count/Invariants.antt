use Rattle.std.proofs.Common.{◌≡◌, ◌≤◌, ◌*◌, length}
use Rattle.mw_element.proofs.Rows.{rows_part}
use Rattle.mw_element.proofs.bitmaps.count.Given as goal

abbrev pub invariant-rows : goal.invariant-rows
invariant-rows l = record {
  made : l.count ≡ length (rows_part l.bitmap 0 0 0 l.y);
  few : l.count ≤ l.y * 255;
}
