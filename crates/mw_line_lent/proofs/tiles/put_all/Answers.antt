use Rattle.std.proofs.Common.{◌≡◌, ℕ, ◌+◌, ◌-◌, ◌*◌, get_or, refl, arith, ◌∙◌}
use Rattle.mw_line.specs.Cells.{merged_cell}
use Rattle.mw_line.specs.Extrema.{over_box}
use Rattle.mw_line.proofs.Folds.{IsExtremum}
use Rattle.mw_line_lent.proofs.Bests.{best_box}
use Rattle.mw_line_lent.proofs.Puts.{rows_le, rows_on}
use Rattle.mw_line_lent.proofs.tiles.put_all.Goals as goal

pub by_rows-init : goal.by_rows-init
by_rows-init g c = record { within = omega arith; blank = c.requires.blank; spare = refl; size = refl; made = λ x y less lt. absurd (omega (arith, lt)) }

pub by_rows-preserved : goal.by_rows-preserved
by_rows-preserved g c =
    let f = g.E.Extremum.merge in
    let laws : IsExtremum f = record { commutes = g.met.E.Extremum.commutes; associates = g.met.E.Extremum.associates; is_idempotent = g.met.E.Extremum.is_idempotent } in
    let b = c.args.boxes in
    let n = c.args.neutral in
    let w = c.args.lent.now in
    let done = c.by_rows.done in
    let made = c.put_lines-made.result in
    let wide = b.width + (b.across - 1) in
    let lines = c.put_lines-made.new.lines in
    let cell = merged_cell f n w b.column b.row in
    record {
      within = c.put_lines-made.ensures.within;
      blank = c.put_lines-made.ensures.blank;
      spare = c.put_rows.ensures.spare ∙ c.by_rows.invariant.spare;
      size = c.put_rows.ensures.put.size ∙ c.by_rows.invariant.size;
      made = rows_on (λ x y v. v ≡ over_box f cell b.across b.down x y) n b.width done made c.by_rows.out c.put_rows.new.out c.put_rows.ensures.put
          (λ r x lt less. best_box f laws cell (λ j. get_or lines (r * wide + j) n) x (done + r) b.across b.down _ c.requires.suited.across c.requires.suited.down
          (λ j from to. c.put_lines-made.ensures.lines r lt j (omega (arith, to, less, c.requires.suited.across)))
          (c.put_rows.ensures.made r x n lt less))
          c.by_rows.invariant.made;
    }

pub put_rows-requires-clause-lines : goal.put_rows-requires-clause-lines
put_rows-requires-clause-lines g c =
    let b = c.args.boxes in
    omega (arith, rows_le c.put_lines-made.result 4 (b.width + (b.across - 1)) c.put_lines-made.ensures.few, c.put_lines-made.ensures.blank.size)

pub put_rows-requires-clause-room : goal.put_rows-requires-clause-room
put_rows-requires-clause-room g c =
    let b = c.args.boxes in
    let done = c.by_rows.done in
    let made = c.put_lines-made.result in
    omega (arith, rows_le (done + made) b.height b.width c.put_lines-made.ensures.within, spread done made b.width, c.requires.room, c.by_rows.invariant.size)
  where
    spread : (a m s : ℕ) → (a + m) * s ≡ a * s + m * s
    spread a m s = omega arith
