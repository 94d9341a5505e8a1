use Rattle.std.proofs.Common.{◌≡◌, ℕ, ℤ, pos, ◌+ℤ◌, ◌-ℤ◌, ◌+◌, ◌-◌, ap, subst, arith, ◌∙◌, w64, to_z, of_z}
use Rattle.std.proofs.lemmas.Int.{ints}
use Rattle.mw_model.specs.declared.offsets.Rect.{Rect}
use Rattle.mw_rank_medians.specs.Filled.{or_top}
use Rattle.mw_rank_lent.specs.Lines.{IsOne}
use Rattle.mw_rank_lent.proofs.Lines.{at_offset}
use Rattle.mw_rank_lent.proofs.columns.put_column.Goals as goal

pub put_line-requires : goal.put_line-requires
put_line-requires g c =
    let y-is = ap (λ (t : Rect). t.y) c.place-place.ensures.value in
    omega (arith, c.requires.above, c.requires.below, y-is)

pub returns-clause-made : goal.returns-clause-made
returns-clause-made g c = λ i lt.
    let w = c.args.lent.now in
    let b = c.args.square.first in
    let x : ℕ = c.args.columns.x + c.args.q in
    let y : ℕ = c.args.columns.y + i in
    let x-is = ap (λ (t : Rect). t.x) c.place-place.ensures.value in
    let y-is = ap (λ (t : Rect). t.y) c.place-place.ensures.value in
    let column : ℤ = to_z w64 (of_z w64 c.column_of-column.result) in
    let row : ℕ = c.args.columns.y - c.args.square.reach - c.place-place.result.y in
    let column-is : column ≡ pos x +ℤ b.dx -ℤ pos w.place.x = omega (arith, ints, c.column_of-column.ensures, x-is, c.requires.middle.left) in
    let row-is : pos (row + i) ≡ pos y +ℤ b.dy -ℤ pos w.place.y = omega (arith, ints, y-is, c.requires.middle.above, c.requires.above) in
    c.put_line.ensures.made i lt ∙ ap (or_top g.P.Pixel.top_level) (at_offset g.P.Pixel.level w b x y column (pos (row + i)) column-is row-is)

pub returns-clause-seen : goal.returns-clause-seen
returns-clause-seen g c = λ i k lt at across.
    let w = c.args.lent.now in
    let b = c.args.square.first in
    let x : ℕ = c.args.columns.x + c.args.q in
    let y : ℕ = c.args.columns.y + i in
    let x-is = ap (λ (t : Rect). t.x) c.place-place.ensures.value in
    let y-is = ap (λ (t : Rect). t.y) c.place-place.ensures.value in
    let column : ℤ = to_z w64 (of_z w64 c.column_of-column.result) in
    let row : ℕ = c.args.columns.y - c.args.square.reach - c.place-place.result.y in
    let column-is : column ≡ pos x +ℤ b.dx -ℤ pos w.place.x = omega (arith, ints, c.column_of-column.ensures, x-is, c.requires.middle.left) in
    let row-is : pos (row + i) ≡ pos y +ℤ b.dy -ℤ pos w.place.y = omega (arith, ints, y-is, c.requires.middle.above, c.requires.above) in
    subst (IsOne g.P.Pixel.top_level) (at_offset g.P.Pixel.level w b x y column (pos (row + i)) column-is row-is) (c.put_line.ensures.seen i k lt (column-is ∙ at) across)
