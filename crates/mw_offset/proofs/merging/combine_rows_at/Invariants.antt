use Rattle.std.proofs.Common.{◌+◌, ◌*◌, fold}
use Rattle.mw_line.proofs.Rows.{RowsDone}
use Rattle.mw_offset.specs.MergedAt.{merge_from}
use Rattle.mw_offset.proofs.merging.combine_rows_at.Given as goal

abbrev pub invariant-loop-y : goal.invariant-loop-y
invariant-loop-y g l =
    (d : g.row.P.Denot) → RowsDone (λ best x j. fold (merge_from g.E.Extremum.merge l.cells d (j * l.wide + x)) best l.places) l.width l.height l.y l.fn.out l.out
