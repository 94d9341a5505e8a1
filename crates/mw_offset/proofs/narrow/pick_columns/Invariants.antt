use Rattle.std.proofs.Common.{◌+◌, ◌*◌, get_or}
use Rattle.mw_line.proofs.Rows.{RowsDone}
use Rattle.mw_offset.proofs.narrow.pick_columns.Given as goal

abbrev pub invariant-loop-y : goal.invariant-loop-y
invariant-loop-y g l = (d : g.row.P.Denot) → RowsDone (λ held x j. get_or l.list (j * l.wide + x) d) l.width l.height l.y l.fn.out l.out
