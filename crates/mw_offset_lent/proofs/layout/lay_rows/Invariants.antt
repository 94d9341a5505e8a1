use Rattle.std.proofs.Common.{◌≡◌, ℕ, ◌+◌, ◌*◌, ◌<◌, get_or, length}
use Rattle.mw_line.specs.Cells.{spread_cell}
use Rattle.mw_offset_lent.proofs.layout.lay_rows.Given as goal

abbrev pub invariant-loop-y : goal.invariant-loop-y
invariant-loop-y g l = record {
  size : length l.cells ≡ length l.initial.cells;
  made : (y x : ℕ) → y < l.y → x < l.rows.wide → get_or l.cells (y * l.rows.wide + x) l.neutral ≡ spread_cell l.neutral l.lent l.rows.column l.rows.row x y;
}
