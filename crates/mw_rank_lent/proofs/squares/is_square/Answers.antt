use Rattle.std.proofs.Common.{pos, rules, ◌≡◌, ◌+◌, ◌*◌, ◌<◌, arith, sym, ap, length, get_or, List, ◌∙◌}
use Rattle.std.proofs.lemmas.List.{get_or_default}
use Rattle.std.proofs.lemmas.Nat.{mul-add-lt}
use Rattle.mw_model.specs.declared.offsets.Offset.{Offset}
use Rattle.mw_rank_medians.specs.Squares.{offset_rows, row_down}
use Rattle.mw_rank_medians.proofs.mw_rank.Sights.{offset_on}
use Rattle.mw_rank_medians.proofs.Squares.{row_more}
use Rattle.mw_rank_lent.proofs.Offsets.{in_square, length-square}
use Rattle.mw_rank_lent.proofs.squares.is_square.Goals as goal

pub loop-column-preserved : goal.loop-column-preserved
loop-column-preserved c =
    let none : Offset = record { dx = pos 0; dy = pos 0 } in
    let offsets = c.args.offsets.now in
    let side = c.args.side in
    let first = c.args.first in
    let row = c.loop-row.row in
    let column = c.loop-column.column in
    let o = get_or offsets (row * side + column) none in
    let lt : row * side + column < length offsets = omega (arith, mul-add-lt row side column side (omega arith) (omega arith)) in
    let h = c.stands_at.ensures.0 c.if-not-stands_at.false in
    row_more offsets (offset_rows first side row) first o side row column lt (sym (get_or_default offsets (row * side + column) none o lt)) h.0 h.1 c.loop-column.invariant

pub returns-then-offsets-side-clause-all : goal.returns-then-offsets-side-clause-all
returns-then-offsets-side-clause-all c = λ is.
    let size : length c.args.offsets.now ≡ c.args.side * c.args.side = ap (λ (xs : List Offset). length xs) is ∙ length-square c.args.first c.args.side c.args.side in
    search rules

pub returns-then-not-stands_at-clause-all : goal.returns-then-not-stands_at-clause-all
returns-then-not-stands_at-clause-all c = λ is.
    let none : Offset = record { dx = pos 0; dy = pos 0 } in
    let side = c.args.side in
    let first = c.args.first in
    let row = c.loop-row.row in
    let column = c.loop-column.column in
    let there : get_or c.args.offsets.now (row * side + column) none ≡ offset_on (row_down first row) column =
    ap (λ (xs : List Offset). get_or xs (row * side + column) none) is ∙ in_square first side side row column none (omega arith) (omega arith) in
    let yes = c.stands_at.ensures.1 (ap (λ (b : Offset). b.dx) there, ap (λ (b : Offset). b.dy) there) in
    search rules
