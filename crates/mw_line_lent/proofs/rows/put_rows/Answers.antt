use Rattle.std.proofs.Common.{◌≡◌, ℕ, ◌+◌, ◌-◌, ◌*◌, get_or, refl, arith, ◌∙◌}
use Rattle.mw_line_lent.specs.Bests.{IsBest}
use Rattle.mw_line_lent.proofs.Puts.{put_longer, put_none, put_part, row_on, rows_le}
use Rattle.mw_line_lent.proofs.rows.put_rows.Goals as goal

pub loop-r-init : goal.loop-r-init
loop-r-init g c = record { spare = refl; put = put_none c.args.at (0 * c.args.boxes.width) c.args.out.now; made = λ r i d lt less. absurd (omega (arith, lt)) }

pub loop-r-preserved : goal.loop-r-preserved
loop-r-preserved g c =
    let f = g.E.Extremum.merge in
    let b = c.args.boxes in
    let at = c.args.at in
    let r = c.loop-r.r in
    let w = b.width in
    let lines = c.args.lines.now in
    let next : (r + 1) * w ≡ r * w + w = omega arith in
    record {
      spare = c.put_row.ensures.spare ∙ c.loop-r.invariant.spare;
      put = put_part at ((r + 1) * w) (at + r * w) w c.args.out.now c.loop-r.out c.put_row.new.out (omega arith) (omega (arith, next)) (put_longer at (r * w) ((r + 1) * w) c.args.out.now c.loop-r.out (omega (arith, next)) c.loop-r.invariant.put) c.put_row.ensures.put;
      made = λ j i d lt less. row_on (λ j i v. IsBest f (λ k. get_or lines (j * (w + (b.across - 1)) + k) d) i (i + b.across) v) d at w r c.loop-r.out c.put_row.new.out c.put_row.ensures.put
          (λ i less. c.put_row.ensures.made i d less) (λ j i lt less. c.loop-r.invariant.made j i d lt less) j i lt less;
    }

pub put_row-requires-clause-line : goal.put_row-requires-clause-line
put_row-requires-clause-line g c =
    let b = c.args.boxes in
    let fits = rows_le (c.loop-r.r + 1) c.args.count (b.width + (b.across - 1)) (omega arith) in
    omega (arith, fits, spread c.loop-r.r (b.width + (b.across - 1)), c.requires.lines)
  where
    spread : (a m : ℕ) → (a + 1) * m ≡ a * m + m
    spread a m = omega arith

pub put_row-requires-clause-room : goal.put_row-requires-clause-room
put_row-requires-clause-room g c =
    let b = c.args.boxes in
    let fits = rows_le (c.loop-r.r + 1) c.args.count b.width (omega arith) in
    omega (arith, fits, spread c.loop-r.r b.width, c.requires.room, c.loop-r.invariant.put.size)
  where
    spread : (a m : ℕ) → (a + 1) * m ≡ a * m + m
    spread a m = omega arith
