use Rattle.std.proofs.Common.{◌≡◌, ◌+◌, ◌*◌, ◌++◌, take}
use Rattle.mw_rank_medians.specs.mw_rank.Runs.{offsets_from}
use Rattle.mw_rank_medians.specs.Squares.{offset_rows, row_down}
use Rattle.mw_rank_lent.proofs.squares.is_square.Given as goal

abbrev pub invariant-loop-row : goal.invariant-loop-row
invariant-loop-row l = take (l.row * l.side) l.offsets ≡ offset_rows l.first l.side l.row

abbrev pub invariant-loop-column : goal.invariant-loop-column
invariant-loop-column l = take (l.row * l.side + l.column) l.offsets ≡ offset_rows l.first l.side l.row ++ offsets_from (row_down l.first l.row) l.column
