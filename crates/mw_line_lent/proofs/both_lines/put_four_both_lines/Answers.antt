use Rattle.std.proofs.Common.{◌≡◌, ℕ, ◌+◌, ◌*◌, ◌+ℤ◌, pos, ℤ, length, to_z, of_z, w64, refl, ap, subst, arith}
use Rattle.std.proofs.lemmas.Int.{ints}
use Rattle.mw_model.specs.declared.offsets.Rect.{Rect}
use Rattle.mw_line.proofs.Folds.{IsExtremum}
use Rattle.mw_line_lent.specs.Parts.{IsOverlap}
use Rattle.mw_line_lent.proofs.LineCells.{blank_kept_in_rows, lines_of_rows}
use Rattle.mw_line_lent.proofs.Puts.{rows_le}
use Rattle.mw_line_lent.proofs.both_lines.put_four_both_lines.Goals as goal

pub returns-clause-upper_blank : goal.returns-clause-upper_blank
returns-clause-upper_blank g c = blank_kept_in_rows c.args.ends.bottom c.args.boxes 4 c.args.uppers.now c.put_four_both.new.uppers c.requires.part.within c.requires.upper_blank c.put_four_both.ensures.upper_put

pub returns-clause-lower_blank : goal.returns-clause-lower_blank
returns-clause-lower_blank g c = blank_kept_in_rows c.args.ends.top c.args.boxes 4 c.args.lowers.now c.put_four_both.new.lowers c.requires.part.within c.requires.lower_blank c.put_four_both.ensures.lower_put

pub returns-clause-upper : goal.returns-clause-upper
returns-clause-upper g c = λ done.
    let f = g.U.Extremum.merge in
    let laws : IsExtremum f = record { commutes = g.met.U.Extremum.commutes; associates = g.met.U.Extremum.associates; is_idempotent = g.met.U.Extremum.is_idempotent } in
    let w = c.args.lent.now in
    let b = c.args.boxes in
    let y = c.args.y in
    let seen = c.part_of-seen.result in
    let long : ℕ = b.down + 3 in
    let first : ℤ = to_z w64 (of_z w64 (to_z w64 (of_z w64 b.row) +ℤ to_z w64 y)) in
    let row-is : first ≡ b.row +ℤ pos y = omega (arith, ints) in
    let height = ap (λ (t : Rect). t.height) c.place-place.ensures.value in
    let width = ap (λ (t : Rect). t.width) c.place-place.ensures.value in
    let rows : IsOverlap (b.row +ℤ pos y) long w.place.height seen = subst (λ (t : ℤ). IsOverlap t long w.place.height seen) row-is (subst (λ (t : ℕ). IsOverlap first long t seen) height c.part_of-seen.ensures) in
    let stride = c.place-place.result.width in
    lines_of_rows f laws c.args.ends.bottom w b y 4 long seen c.samples.result.now stride (seen.ahead * stride + b.part.ahead) c.put_four_both.new.uppers (omega arith) c.samples.ensures.value width refl c.samples.ensures.size c.requires.part rows (omega arith) (omega arith)
    c.requires.suited.down (returns-clause-upper_blank g c) (λ r i few lt. c.put_four_both.ensures.upper r i c.args.ends.bottom few lt)

pub returns-clause-lower : goal.returns-clause-lower
returns-clause-lower g c = λ done.
    let f = g.L.Extremum.merge in
    let laws : IsExtremum f = record { commutes = g.met.L.Extremum.commutes; associates = g.met.L.Extremum.associates; is_idempotent = g.met.L.Extremum.is_idempotent } in
    let w = c.args.lent.now in
    let b = c.args.boxes in
    let y = c.args.y in
    let seen = c.part_of-seen.result in
    let long : ℕ = b.down + 3 in
    let first : ℤ = to_z w64 (of_z w64 (to_z w64 (of_z w64 b.row) +ℤ to_z w64 y)) in
    let row-is : first ≡ b.row +ℤ pos y = omega (arith, ints) in
    let height = ap (λ (t : Rect). t.height) c.place-place.ensures.value in
    let width = ap (λ (t : Rect). t.width) c.place-place.ensures.value in
    let rows : IsOverlap (b.row +ℤ pos y) long w.place.height seen = subst (λ (t : ℤ). IsOverlap t long w.place.height seen) row-is (subst (λ (t : ℕ). IsOverlap first long t seen) height c.part_of-seen.ensures) in
    let stride = c.place-place.result.width in
    lines_of_rows f laws c.args.ends.top w b y 4 long seen c.samples.result.now stride (seen.ahead * stride + b.part.ahead) c.put_four_both.new.lowers (omega arith) c.samples.ensures.value width refl c.samples.ensures.size c.requires.part rows (omega arith) (omega arith)
    c.requires.suited.down (returns-clause-lower_blank g c) (λ r i few lt. c.put_four_both.ensures.lower r i c.args.ends.top few lt)

pub put_four_both-requires-clause-inside : goal.put_four_both-requires-clause-inside
put_four_both-requires-clause-inside g c =
    let b = c.args.boxes in
    let w = c.args.lent.now in
    let seen = c.part_of-seen in
    let height = ap (λ (t : Rect). t.height) c.place-place.ensures.value in
    let width = ap (λ (t : Rect). t.width) c.place-place.ensures.value in
    let s = c.place-place.result.width in
    let fits = rows_le (seen.result.ahead + (b.down + 2) + 1) c.place-place.result.height s (omega (arith, seen.ensures.fits)) in
    omega (arith, fits, spread seen.result.ahead (b.down + 2) s, c.requires.part.fits, c.samples.ensures.size, ap length c.samples.ensures.value, width, ap (λ (t : ℕ). t * s) height, ap (λ (t : ℕ). w.place.height * t) width)
  where
    spread : (a m s : ℕ) → (a + m + 1) * s ≡ a * s + m * s + s
    spread a m s = omega arith
