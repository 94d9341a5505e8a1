use Rattle.std.proofs.Common.{◌≡◌, ℕ, ◌+◌, ◌*◌, ◌+ℤ◌, pos, ℤ, get_or, length, to_z, of_z, w64, refl, ap, subst, arith}
use Rattle.std.proofs.lemmas.Int.{ints}
use Rattle.mw_model.specs.declared.offsets.Rect.{Rect}
use Rattle.mw_line.specs.Cells.{merged_cell}
use Rattle.mw_line.proofs.Folds.{IsExtremum}
use Rattle.mw_line_lent.specs.Bests.{IsBest}
use Rattle.mw_line_lent.specs.Boxes.{wide_of}
use Rattle.mw_line_lent.specs.Parts.{IsOverlap}
use Rattle.mw_line_lent.proofs.LineCells.{blank_kept_in_rows, column_of_rows, line_made}
use Rattle.mw_line_lent.proofs.Puts.{rows_le}
use Rattle.mw_line_lent.proofs.lines.put_two_lines.Goals as goal

pub returns-clause-blank : goal.returns-clause-blank
returns-clause-blank g c = blank_kept_in_rows c.args.neutral c.args.boxes 2 c.args.lines.now c.put_two.new.out c.requires.part.within c.requires.blank c.put_two.ensures.put

pub returns-clause-lines : goal.returns-clause-lines
returns-clause-lines g c = λ done r few.
    let f = g.E.Extremum.merge in
    let laws : IsExtremum f = record { commutes = g.met.E.Extremum.commutes; associates = g.met.E.Extremum.associates; is_idempotent = g.met.E.Extremum.is_idempotent } in
    let n = c.args.neutral in
    let w = c.args.lent.now in
    let b = c.args.boxes in
    let y = c.args.y in
    let seen = c.part_of-seen.result in
    let long : ℕ = b.down + 1 in
    let first : ℤ = to_z w64 (of_z w64 (to_z w64 (of_z w64 b.row) +ℤ to_z w64 y)) in
    let row-is : first ≡ b.row +ℤ pos y = omega (arith, ints) in
    let height = ap (λ (t : Rect). t.height) c.place-place.ensures.value in
    let width = ap (λ (t : Rect). t.width) c.place-place.ensures.value in
    let rows : IsOverlap (b.row +ℤ pos y) long w.place.height seen = subst (λ (t : ℤ). IsOverlap t long w.place.height seen) row-is (subst (λ (t : ℕ). IsOverlap first long t seen) height c.part_of-seen.ensures) in
    let stride = c.place-place.result.width in
    line_made f laws n w b (y + r) r (r * wide_of b) c.put_two.new.out refl c.requires.suited.down (omega (arith, few)) c.requires.part (returns-clause-blank g c)
    (λ i lt.
    let place : b.part.behind + r * wide_of b + i ≡ r * wide_of b + b.part.behind + i = omega arith in
    subst (λ (t : ℕ). IsBest f (merged_cell f n w b.column b.row (b.part.behind + i)) (y + r) (y + r + b.down) (get_or c.put_two.new.out t n)) place
    (column_of_rows f n w b y long r seen c.samples.result.now stride (seen.ahead * stride + b.part.ahead) i _ c.samples.ensures.value width refl c.samples.ensures.size c.requires.part rows (omega arith) (omega (arith, few)) lt
    (c.put_two.ensures.made r i n few lt)))

pub put_two-requires-clause-inside : goal.put_two-requires-clause-inside
put_two-requires-clause-inside g c =
    let b = c.args.boxes in
    let w = c.args.lent.now in
    let seen = c.part_of-seen in
    let height = ap (λ (t : Rect). t.height) c.place-place.ensures.value in
    let width = ap (λ (t : Rect). t.width) c.place-place.ensures.value in
    let s = c.place-place.result.width in
    let fits = rows_le (seen.result.ahead + (b.down) + 1) c.place-place.result.height s (omega (arith, seen.ensures.fits)) in
    omega (arith, fits, spread seen.result.ahead (b.down) s, c.requires.part.fits, c.samples.ensures.size, ap length c.samples.ensures.value, width, ap (λ (t : ℕ). t * s) height, ap (λ (t : ℕ). w.place.height * t) width)
  where
    spread : (a m s : ℕ) → (a + m + 1) * s ≡ a * s + m * s + s
    spread a m s = omega arith
