use Rattle.std.proofs.Common.{◌+◌, ◌-◌, ◌*◌, ◌<◌, ◌≤◌, ◌∙◌, get_or, ap, arith, refl}
use Rattle.std.proofs.Math.Nat.{mul-le-mul_left}
use Rattle.mw_line.proofs.Cells.{box_of_parts}
use Rattle.mw_line.proofs.Folds.{IsExtremum}
use Rattle.mw_line.proofs.Rows.{rows_fit}
use Rattle.mw_line.proofs.in_cache.merge_boxes.Goals as goal

pub slide_by-requires-clause-room : goal.slide_by-requires-clause-room
slide_by-requires-clause-room g c =
    let s = c.args.slide in
    let wide = s.width + (s.across - 1) in
    let high = s.height + (s.down - 1) in
    let le : s.down ≤ high = omega (arith, c.requires.some) in
    let some : 0 < wide = omega (arith, c.requires.some) in
    omega (arith, mul-le-mul_left wide le, some)

pub slide_by-requires-2-clause-within : goal.slide_by-requires-2-clause-within
slide_by-requires-2-clause-within g c =
    let s = c.args.slide in
    let wide = s.width + (s.across - 1) in
    let le : s.height ≤ s.height + (s.down - 1) = omega arith in
    omega (arith, mul-le-mul_left wide le, c.requires.cells, c.slide_by.auto.row)

pub slide_by-requires-2-clause-room : goal.slide_by-requires-2-clause-room
slide_by-requires-2-clause-room g c =
    let s = c.args.slide in
    let wide = s.width + (s.across - 1) in
    let first = rows_fit 0 s.height wide c.requires.some.3 in
    omega (arith, first, c.requires.some, c.power_within-taken.ensures.within)

pub merge_rows-requires-clause-cells : goal.merge_rows-requires-clause-cells
merge_rows-requires-clause-cells g c =
    let s = c.args.slide in
    let wide = s.width + (s.across - 1) in
    let high = s.height + (s.down - 1) in
    let last = rows_fit (s.height - 1) high wide (omega (arith, c.requires.some)) in
    omega (arith, last, c.requires.some, c.requires.cells, c.slide_by.auto.row, c.slide_by-2.auto.row, c.power_within-taken.ensures.within, c.power_within-taken.ensures.some)

pub returns : goal.returns
returns g c = λ x y d less row_less.
    let f = g.E.Extremum.merge in
    let laws : IsExtremum f = record { commutes = g.met.E.Extremum.commutes; associates = g.met.E.Extremum.associates; is_idempotent = g.met.E.Extremum.is_idempotent } in
    let s = c.args.slide in
    let wide = s.width + (s.across - 1) in
    let high = s.height + (s.down - 1) in
    let taken = c.power_within-taken.result in
    c.merge_rows.ensures x y d d less row_less
    ∙ ap (f (get_or c.args.out.now (y * s.width + x) d))
    (box_of_parts f laws c.args.cells.now c.slide_by.new.row c.slide_by-2.new.row d wide high s.width s.height s.across s.down taken x y
    (omega (arith, c.requires.some)) c.power_within-taken.ensures.some c.power_within-taken.ensures.within c.power_within-taken.ensures.most refl refl
    (λ p lt. c.slide_by.ensures.windows p d lt) (λ p lt. c.slide_by-2.ensures.windows p d lt) less row_less)
