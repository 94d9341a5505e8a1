use Rattle.std.proofs.Common.{◌≡◌, ℕ, ◌+◌, ◌-◌, ◌*◌, ◌+ℤ◌, pos, ℤ, get_or, length, to_z, of_z, w64, refl, ap, sym, subst, arith}
use Rattle.std.proofs.lemmas.Int.{ints}
use Rattle.mw_model.specs.declared.offsets.Rect.{Rect}
use Rattle.mw_line.specs.Cells.{merged_cell}
use Rattle.mw_line.proofs.Folds.{IsExtremum}
use Rattle.mw_line_lent.specs.Bests.{IsBest}
use Rattle.mw_line_lent.specs.Boxes.{wide_of}
use Rattle.mw_line_lent.specs.Parts.{IsOverlap}
use Rattle.mw_line_lent.proofs.Columns.{no_rows_best}
use Rattle.mw_line_lent.proofs.LineCells.{blank_kept, column_read, line_made}
use Rattle.mw_line_lent.proofs.Puts.{rows_le}
use Rattle.mw_line_lent.proofs.lines.put_line.Goals as goal

pub returns-then-seen-eq0-clause-blank : goal.returns-then-seen-eq0-clause-blank
returns-then-seen-eq0-clause-blank g c = blank_kept c.args.neutral c.args.boxes 0 c.args.boxes.part.behind c.args.lines.now c.fill.new.out (omega arith) c.requires.part.within c.requires.blank c.fill.ensures.put

pub returns-then-seen-eq0-clause-line : goal.returns-then-seen-eq0-clause-line
returns-then-seen-eq0-clause-line g c =
    let f = g.E.Extremum.merge in
    let laws : IsExtremum f = record { commutes = g.met.E.Extremum.commutes; associates = g.met.E.Extremum.associates; is_idempotent = g.met.E.Extremum.is_idempotent } in
    let n = c.args.neutral in
    let w = c.args.lent.now in
    let b = c.args.boxes in
    let y = c.args.y in
    let seen = c.part_of-seen.result in
    let first : ℤ = to_z w64 (of_z w64 (to_z w64 (of_z w64 b.row) +ℤ to_z w64 y)) in
    let row-is : first ≡ b.row +ℤ pos y = omega (arith, ints) in
    let height = ap (λ (t : Rect). t.height) c.place-place.ensures.value in
    let rows : IsOverlap (b.row +ℤ pos y) b.down w.place.height seen = subst (λ (t : ℤ). IsOverlap t b.down w.place.height seen) row-is (subst (λ (t : ℕ). IsOverlap first b.down t seen) height c.part_of-seen.ensures) in
    line_made f laws n w b y 0 0 c.fill.new.out (omega arith) c.requires.suited.down (omega arith) c.requires.part (returns-then-seen-eq0-clause-blank g c)
    (λ i lt.
    let place : b.part.behind + i ≡ 0 * wide_of b + b.part.behind + i = omega arith in
    subst (λ (t : ℕ). IsBest f (merged_cell f n w b.column b.row (b.part.behind + i)) y (y + b.down) (get_or c.fill.new.out t n)) place
    (subst (IsBest f (merged_cell f n w b.column b.row (b.part.behind + i)) y (y + b.down)) (sym (c.fill.ensures.made i n lt)) (no_rows_best f laws n w b.column b.row y b.down (b.part.behind + i) seen rows (omega arith) c.requires.suited.down)))

pub returns-clause-blank : goal.returns-clause-blank
returns-clause-blank g c = blank_kept c.args.neutral c.args.boxes 0 c.args.boxes.part.behind c.args.lines.now c.put_down.new.out (omega arith) c.requires.part.within c.requires.blank c.put_down.ensures.put

pub returns-clause-line : goal.returns-clause-line
returns-clause-line g c =
    let f = g.E.Extremum.merge in
    let laws : IsExtremum f = record { commutes = g.met.E.Extremum.commutes; associates = g.met.E.Extremum.associates; is_idempotent = g.met.E.Extremum.is_idempotent } in
    let n = c.args.neutral in
    let w = c.args.lent.now in
    let b = c.args.boxes in
    let y = c.args.y in
    let seen = c.part_of-seen.result in
    let first : ℤ = to_z w64 (of_z w64 (to_z w64 (of_z w64 b.row) +ℤ to_z w64 y)) in
    let row-is : first ≡ b.row +ℤ pos y = omega (arith, ints) in
    let height = ap (λ (t : Rect). t.height) c.place-place.ensures.value in
    let width = ap (λ (t : Rect). t.width) c.place-place.ensures.value in
    let rows : IsOverlap (b.row +ℤ pos y) b.down w.place.height seen = subst (λ (t : ℤ). IsOverlap t b.down w.place.height seen) row-is (subst (λ (t : ℕ). IsOverlap first b.down t seen) height c.part_of-seen.ensures) in
    let stride = c.place-place.result.width in
    line_made f laws n w b y 0 0 c.put_down.new.out (omega arith) c.requires.suited.down (omega arith) c.requires.part (returns-clause-blank g c)
    (λ i lt.
    let place : b.part.behind + i ≡ 0 * wide_of b + b.part.behind + i = omega arith in
    subst (λ (t : ℕ). IsBest f (merged_cell f n w b.column b.row (b.part.behind + i)) y (y + b.down) (get_or c.put_down.new.out t n)) place
    (column_read f laws n w b y seen c.samples.result.now stride (seen.ahead * stride + b.part.ahead) i _ c.samples.ensures.value width refl c.samples.ensures.size c.requires.part rows (omega arith) lt (c.put_down.ensures.made i n lt)))

pub put_down-requires-clause-inside : goal.put_down-requires-clause-inside
put_down-requires-clause-inside g c =
    let w = c.args.lent.now in
    let seen = c.part_of-seen in
    let height = ap (λ (t : Rect). t.height) c.place-place.ensures.value in
    let width = ap (λ (t : Rect). t.width) c.place-place.ensures.value in
    let s = c.place-place.result.width in
    let last = seen.result.count - 1 in
    let fits = rows_le (seen.result.ahead + last + 1) c.place-place.result.height s (omega (arith, seen.ensures.fits)) in
    omega (arith, fits, spread seen.result.ahead last s, c.requires.part.fits, c.samples.ensures.size, ap length c.samples.ensures.value, width, ap (λ (t : ℕ). t * s) height, ap (λ (t : ℕ). w.place.height * t) width)
  where
    spread : (a m s : ℕ) → (a + m + 1) * s ≡ a * s + m * s + s
    spread a m s = omega arith
