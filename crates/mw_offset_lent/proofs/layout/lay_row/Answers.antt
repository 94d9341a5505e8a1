use Rattle.std.proofs.Common.{◌≡◌, ℕ, ◌+◌, ◌*◌, ◌<◌, ℤ, pos, ◌+ℤ◌, to_z, of_z, w64, List, get_or, refl, ap, arith, ◌∙◌}
use lib.IntN.{nat_abs}
use Rattle.std.proofs.lemmas.Int.{ints}
use Rattle.std.specs.Option.{unwrap_or}
use Rattle.mw_model.specs.declared.offsets.Rect.{Rect}
use Rattle.mw_model.specs.Rasters.{raster, cell_at}
use Rattle.mw_offset_lent.proofs.Layouts.{row_laid}
use Rattle.mw_offset_lent.proofs.layout.lay_row.Goals as goal

pub returns-clause-made : goal.returns-clause-made
returns-clause-made g c = λ x lt.
    let w = c.args.lent.now in
    let n = c.args.neutral in
    let rows = c.args.rows in
    let part = c.args.part in
    let y = c.args.y in
    let z : ℤ = to_z w64 (of_z w64 (to_z w64 (of_z w64 rows.row) +ℤ to_z w64 y)) in
    let q = nat_abs z in
    let place = c.place-place.result in
    let width = ap (λ (t : Rect). t.width) c.place-place.ensures.value in
    let height = ap (λ (t : Rect). t.height) c.place-place.ensures.value in
    let from = q * place.width + part.ahead in
    let row-is : pos q ≡ rows.row +ℤ pos y = omega (arith, ints) in
    let row-lt : q < place.height = grind (arith, ints) in
    row_laid n w rows.column (y * rows.wide) rows.wide (part.behind + part.count) from q part c.fill-2.new.out c.copy.new.out c.fill-3.new.out c.samples.ensures.size c.requires.part (omega (arith, row-lt, height)) (omega (arith, ap (λ (t : ℕ). q * t) width)) refl
    c.copy.ensures.put c.fill-3.ensures.put (λ i less. c.fill-2.ensures.made i n less)
    (λ i less. c.copy.ensures.made i n less ∙ ap (λ (t : List g.row.P.Denot). get_or t (from + i) n) c.samples.ensures.value) (λ i less. c.fill-3.ensures.made i n less) x lt
    ∙ ap (λ (t : ℤ). unwrap_or (cell_at (raster w.place.width w.place.height w.cells) (rows.column +ℤ pos x) t) n) row-is
