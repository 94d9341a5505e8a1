use Rattle.std.proofs.Common.{◌+◌, ◌*◌, get_or}
use Rattle.mw_line.proofs.Rows.{RowsDone}
use Rattle.mw_line.proofs.pairs.merge_rows.Given as goal

abbrev pub invariant-loop-y : goal.invariant-loop-y
invariant-loop-y g l =
    let f = g.E.Extremum.merge in
    (e : g.row.P.Denot) → RowsDone (λ best x j. f best (f (get_or l.cells (j * l.wide + x) e) (get_or l.cells (j * l.wide + x + l.shift) e))) l.width l.height l.y l.fn.out l.out
