use Rattle.std.proofs.Common.{◌≡◌, ℕ, ◌+◌, ◌-◌, ◌*◌, get_or, refl, arith, ◌∙◌}
use Rattle.mw_line.specs.Cells.{merged_cell}
use Rattle.mw_line.specs.Extrema.{over_box}
use Rattle.mw_line.proofs.Folds.{IsExtremum}
use Rattle.mw_line_lent.proofs.Subtracted.{less_box}
use Rattle.mw_line_lent.proofs.Puts.{rows_le, rows_on}
use Rattle.mw_line_lent.proofs.differences.put_all.Goals as goal

pub by_rows-init : goal.by_rows-init
by_rows-init g c = record {
  within = omega arith;
  upper_blank = c.requires.upper_blank;
  lower_blank = c.requires.lower_blank;
  size = refl;
  made = λ x y less lt. absurd (omega (arith, lt));
}

pub by_rows-preserved : goal.by_rows-preserved
by_rows-preserved g c =
    let level = g.P.Pixel.level in
    let f = g.U.Extremum.merge in
    let laws : IsExtremum f = record { commutes = g.met.U.Extremum.commutes; associates = g.met.U.Extremum.associates; is_idempotent = g.met.U.Extremum.is_idempotent } in
    let h = g.L.Extremum.merge in
    let others : IsExtremum h = record { commutes = g.met.L.Extremum.commutes; associates = g.met.L.Extremum.associates; is_idempotent = g.met.L.Extremum.is_idempotent } in
    let b = c.args.boxes in
    let n = c.args.ends.bottom in
    let m = c.args.ends.top in
    let w = c.args.lent.now in
    let done = c.by_rows.done in
    let lined = c.put_both_lines-made in
    let wide = b.width + (b.across - 1) in
    let uppers = lined.new.uppers in
    let lowers = lined.new.lowers in
    let cell = merged_cell f n w b.column b.row in
    let other = merged_cell h m w b.column b.row in
    record {
      within = lined.ensures.within;
      upper_blank = lined.ensures.upper_blank;
      lower_blank = lined.ensures.lower_blank;
      size = c.put_rows_less.ensures.put.size ∙ c.by_rows.invariant.size;
      made = rows_on (λ x y v. level v ≡ level (over_box f cell b.across b.down x y) - level (over_box h other b.across b.down x y)) n b.width done lined.result c.by_rows.out c.put_rows_less.new.out c.put_rows_less.ensures.put
          (λ r x lt less. less_box level f laws cell (λ j. get_or uppers (r * wide + j) n) h others other (λ j. get_or lowers (r * wide + j) m) x (done + r) b.across b.down _ c.requires.suited.across c.requires.suited.down
          (λ j to. lined.ensures.upper r lt j (omega (arith, to, less, c.requires.suited.across)))
          (λ j to. lined.ensures.lower r lt j (omega (arith, to, less, c.requires.suited.across)))
          (c.put_rows_less.ensures.made r x n m lt less))
          c.by_rows.invariant.made;
    }

pub put_rows_less-requires-clause-uppers : goal.put_rows_less-requires-clause-uppers
put_rows_less-requires-clause-uppers g c =
    let b = c.args.boxes in
    omega (arith, rows_le c.put_both_lines-made.result 4 (b.width + (b.across - 1)) c.put_both_lines-made.ensures.few, c.put_both_lines-made.ensures.upper_blank.size)

pub put_rows_less-requires-clause-lowers : goal.put_rows_less-requires-clause-lowers
put_rows_less-requires-clause-lowers g c =
    let b = c.args.boxes in
    omega (arith, rows_le c.put_both_lines-made.result 4 (b.width + (b.across - 1)) c.put_both_lines-made.ensures.few, c.put_both_lines-made.ensures.lower_blank.size)

pub put_rows_less-requires-clause-room : goal.put_rows_less-requires-clause-room
put_rows_less-requires-clause-room g c =
    let b = c.args.boxes in
    let done = c.by_rows.done in
    let made = c.put_both_lines-made.result in
    omega (arith, rows_le (done + made) b.height b.width c.put_both_lines-made.ensures.within, spread done made b.width, c.requires.room, c.by_rows.invariant.size)
  where
    spread : (a m s : ℕ) → (a + m) * s ≡ a * s + m * s
    spread a m s = omega arith
