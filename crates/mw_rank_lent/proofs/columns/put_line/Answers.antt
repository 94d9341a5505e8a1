use Rattle.std.proofs.Common.{◌≡◌, ℕ, ℤ, ◌+◌, ◌*◌, ◌<◌, pos, length, get_or, refl, ap, sym, subst, arith, ◌∙◌, w64, to_z, of_z}
use lib.IntN.{nat_abs}
use Rattle.std.proofs.lemmas.Int.{ints}
use Rattle.std.proofs.lemmas.Nat.{mul-add-lt}
use Rattle.mw_model.specs.declared.offsets.Rect.{Rect}
use Rattle.mw_rank_medians.specs.Filled.{or_top}
use Rattle.mw_rank_lent.specs.Lines.{IsOne, levels_in}
use Rattle.mw_rank_lent.proofs.Lines.{copied_at}
use Rattle.mw_rank_lent.proofs.columns.put_line.Goals as goal

pub copy_column-requires : goal.copy_column-requires
copy_column-requires g c = λ i lt.
    let w = c.args.lent.now in
    let width = ap (λ (t : Rect). t.width) c.place-place.ensures.value in
    let column : ℕ = nat_abs (to_z w64 (of_z w64 c.args.column)) in
    let row = c.args.row in
    let across : column < w.place.width = grind (arith, ints, width) in
    let split : (a b n : ℕ) → (a + b) * n ≡ a * n + b * n = λ a b n. omega arith in
    omega (
      arith,
      ap length c.samples.ensures.value,
      c.samples.ensures.size,
      mul-add-lt (row + i) w.place.width column w.place.height (omega (arith, c.requires, lt)) across,
      ap (λ (t : ℕ). row * t) width,
      ap (λ (t : ℕ). i * t) width,
      split row i w.place.width,
      (let e : w.place.width * w.place.height ≡ w.place.height * w.place.width = omega arith in e),
    )

pub returns-clause-made : goal.returns-clause-made
returns-clause-made g c = λ i lt.
    let level = g.P.Pixel.level in
    let top = g.P.Pixel.top_level in
    let w = c.args.lent.now in
    let width = ap (λ (t : Rect). t.width) c.place-place.ensures.value in
    let column : ℕ = nat_abs (to_z w64 (of_z w64 c.args.column)) in
    let row = c.args.row in
    let column-is : c.args.column ≡ pos column = omega (arith, ints) in
    let across : column < w.place.width = grind (arith, ints, width) in
    (copied_at level top g.P.Pixel.TOP w column row i (row * c.place-place.result.width + column) c.place-place.result.width c.samples.result.now (get_or c.copy_column.new.line i g.P.Pixel.TOP) c.samples.ensures.size across (omega (arith, c.requires, lt)) c.samples.ensures.value width refl
    (c.copy_column.ensures.cells i lt) (c.copy_column.ensures.small i lt)).0
    ∙ ap (λ (t : ℤ). or_top top (levels_in level w t (pos (row + i)))) (sym column-is)

pub returns-clause-seen : goal.returns-clause-seen
returns-clause-seen g c = λ i k lt is less.
    let level = g.P.Pixel.level in
    let top = g.P.Pixel.top_level in
    let w = c.args.lent.now in
    let width = ap (λ (t : Rect). t.width) c.place-place.ensures.value in
    let column : ℕ = nat_abs (to_z w64 (of_z w64 c.args.column)) in
    let row = c.args.row in
    let column-is : c.args.column ≡ pos column = omega (arith, ints) in
    let across : column < w.place.width = grind (arith, ints, width) in
    subst (λ (t : ℤ). IsOne top (levels_in level w t (pos (row + i)))) (sym column-is)
    (copied_at level top g.P.Pixel.TOP w column row i (row * c.place-place.result.width + column) c.place-place.result.width c.samples.result.now (get_or c.copy_column.new.line i g.P.Pixel.TOP) c.samples.ensures.size across (omega (arith, c.requires, lt)) c.samples.ensures.value width refl
    (c.copy_column.ensures.cells i lt) (c.copy_column.ensures.small i lt)).1
