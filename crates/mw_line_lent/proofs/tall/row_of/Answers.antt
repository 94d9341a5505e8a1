use Rattle.std.proofs.Common.{◌≡◌, ℕ, ◌+◌, ◌*◌, ◌+ℤ◌, pos, ℤ, length, get_or, to_z, of_z, w64, refl, ap, subst, arith, ◌∙◌, zero-add}
use Rattle.std.proofs.lemmas.Int.{ints}
use Rattle.mw_model.specs.declared.offsets.Rect.{Rect}
use Rattle.mw_line.proofs.Folds.{IsExtremum}
use Rattle.mw_line_lent.specs.Parts.{IsOverlap}
use Rattle.mw_line_lent.proofs.Puts.{rows_le}
use Rattle.mw_line_lent.proofs.SheetLines.{row_absent, row_shown}
use Rattle.mw_line_lent.proofs.tall.row_of.Goals as goal

pub returns-then-seen-eq0-clause-cells : goal.returns-then-seen-eq0-clause-cells
returns-then-seen-eq0-clause-cells g c = λ i lt.
    let f = g.E.Extremum.merge in
    let laws : IsExtremum f = record { commutes = g.met.E.Extremum.commutes; associates = g.met.E.Extremum.associates; is_idempotent = g.met.E.Extremum.is_idempotent } in
    let n = c.args.neutral in
    let w = c.args.lent.now in
    let b = c.args.tall.boxes in
    let y = c.args.y in
    let seen = c.part_of-seen.result in
    let first : ℤ = to_z w64 (of_z w64 (to_z w64 (of_z w64 b.row) +ℤ to_z w64 y)) in
    let row-is : first ≡ b.row +ℤ pos y = omega (arith, ints) in
    let height = ap (λ (t : Rect). t.height) c.place-place.ensures.value in
    let rows : IsOverlap (b.row +ℤ pos y) 1 w.place.height seen = subst (λ (t : ℤ). IsOverlap t 1 w.place.height seen) row-is (subst (λ (t : ℕ). IsOverlap first 1 t seen) height c.part_of-seen.ensures) in
    row_absent f laws n w b y i seen (get_or c.args.tall.blank.now (0 + i) n) rows (omega arith) (ap (λ (t : ℕ). get_or c.args.tall.blank.now t n) (zero-add i) ∙ c.requires.tall.neutral i lt)

pub returns-clause-cells : goal.returns-clause-cells
returns-clause-cells g c = λ i lt.
    let f = g.E.Extremum.merge in
    let n = c.args.neutral in
    let w = c.args.lent.now in
    let b = c.args.tall.boxes in
    let y = c.args.y in
    let seen = c.part_of-seen.result in
    let first : ℤ = to_z w64 (of_z w64 (to_z w64 (of_z w64 b.row) +ℤ to_z w64 y)) in
    let row-is : first ≡ b.row +ℤ pos y = omega (arith, ints) in
    let height = ap (λ (t : Rect). t.height) c.place-place.ensures.value in
    let width = ap (λ (t : Rect). t.width) c.place-place.ensures.value in
    let rows : IsOverlap (b.row +ℤ pos y) 1 w.place.height seen = subst (λ (t : ℤ). IsOverlap t 1 w.place.height seen) row-is (subst (λ (t : ℕ). IsOverlap first 1 t seen) height c.part_of-seen.ensures) in
    let stride = c.place-place.result.width in
    row_shown f n w b y seen c.samples.result.now stride (seen.ahead * stride + b.part.ahead) i c.samples.ensures.value width refl c.samples.ensures.size c.requires.tall.part rows (omega arith) lt

pub returns-clause-inside : goal.returns-clause-inside
returns-clause-inside g c =
    let b = c.args.tall.boxes in
    let w = c.args.lent.now in
    let seen = c.part_of-seen in
    let height = ap (λ (t : Rect). t.height) c.place-place.ensures.value in
    let width = ap (λ (t : Rect). t.width) c.place-place.ensures.value in
    let s = c.place-place.result.width in
    let fits = rows_le (seen.result.ahead + 1) c.place-place.result.height s (omega (arith, seen.ensures.fits)) in
    omega (arith, fits, c.requires.tall.part.fits, c.samples.ensures.size, ap length c.samples.ensures.value, width, ap (λ (t : ℕ). t * s) height, ap (λ (t : ℕ). w.place.height * t) width)
