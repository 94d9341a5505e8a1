use Rattle.std.proofs.Common.{pos, ◌+◌, ◌*◌, ◌<◌, arith, sym, length, get_or}
use Rattle.std.proofs.lemmas.List.{get_or_default}
use Rattle.std.proofs.lemmas.Nat.{mul-add-lt}
use Rattle.mw_model.specs.declared.offsets.Offset.{Offset}
use Rattle.mw_rank_medians.specs.Squares.{offset_rows}
use Rattle.mw_rank_medians.proofs.Squares.{row_more}
use Rattle.mw_rank_medians.proofs.square.square_of.Goals as goal

pub loop-column-preserved : goal.loop-column-preserved
loop-column-preserved c =
    let none : Offset = record { dx = pos 0; dy = pos 0 } in
    let offsets = c.args.offsets.now in
    let side = c.args.side in
    let first = get_or offsets 0 none in
    let row = c.loop-row.row in
    let column = c.loop-column.column in
    let o = get_or offsets (row * side + column) none in
    let lt : row * side + column < length offsets = omega (arith, mul-add-lt row side column side (omega arith) (omega arith)) in
    let h = c.stands_at.ensures c.if-not-stands_at.false in
    row_more offsets (offset_rows first side row) first o side row column lt (sym (get_or_default offsets (row * side + column) none o lt)) h.0 h.1 c.loop-column.invariant
