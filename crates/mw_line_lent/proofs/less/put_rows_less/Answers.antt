use Rattle.std.proofs.Common.{◌≡◌, ℕ, ◌+◌, ◌-◌, ◌*◌, get_or, arith}
use Rattle.mw_line_lent.specs.Differences.{IsBestLess}
use Rattle.mw_line_lent.proofs.Puts.{put_longer, put_none, put_part, row_on, rows_le}
use Rattle.mw_line_lent.proofs.less.put_rows_less.Goals as goal

pub loop-r-init : goal.loop-r-init
loop-r-init g c = record { put = put_none c.args.at (0 * c.args.boxes.width) c.args.out.now; made = λ r i d e lt less. absurd (omega (arith, lt)) }

pub loop-r-preserved : goal.loop-r-preserved
loop-r-preserved g c =
    let b = c.args.boxes in
    let at = c.args.at in
    let r = c.loop-r.r in
    let w = b.width in
    let uppers = c.args.lines.uppers.now in
    let lowers = c.args.lines.lowers.now in
    let next : (r + 1) * w ≡ r * w + w = omega arith in
    record {
      put = put_part at ((r + 1) * w) (at + r * w) w c.args.out.now c.loop-r.out c.put_row_less.new.out (omega arith) (omega (arith, next)) (put_longer at (r * w) ((r + 1) * w) c.args.out.now c.loop-r.out (omega (arith, next)) c.loop-r.invariant.put) c.put_row_less.ensures.put;
      made = λ j i d e lt less. row_on (λ j i v. IsBestLess g.P.Pixel.level g.U.Extremum.merge (λ k. get_or uppers (j * (w + (b.across - 1)) + k) d) g.L.Extremum.merge (λ k. get_or lowers (j * (w + (b.across - 1)) + k) e) i (i + b.across) v) d at w r c.loop-r.out c.put_row_less.new.out c.put_row_less.ensures.put
          (λ i less. c.put_row_less.ensures.made i d e less) (λ j i lt less. c.loop-r.invariant.made j i d e lt less) j i lt less;
    }

pub put_row_less-requires-clause-inside_upper : goal.put_row_less-requires-clause-inside_upper
put_row_less-requires-clause-inside_upper g c =
    let b = c.args.boxes in
    let fits = rows_le (c.loop-r.r + 1) c.args.count (b.width + (b.across - 1)) (omega arith) in
    omega (arith, fits, spread c.loop-r.r (b.width + (b.across - 1)), c.requires.uppers)
  where
    spread : (a m : ℕ) → (a + 1) * m ≡ a * m + m
    spread a m = omega arith

pub put_row_less-requires-clause-inside_lower : goal.put_row_less-requires-clause-inside_lower
put_row_less-requires-clause-inside_lower g c =
    let b = c.args.boxes in
    let fits = rows_le (c.loop-r.r + 1) c.args.count (b.width + (b.across - 1)) (omega arith) in
    omega (arith, fits, spread c.loop-r.r (b.width + (b.across - 1)), c.requires.lowers)
  where
    spread : (a m : ℕ) → (a + 1) * m ≡ a * m + m
    spread a m = omega arith

pub put_row_less-requires-clause-room : goal.put_row_less-requires-clause-room
put_row_less-requires-clause-room g c =
    let b = c.args.boxes in
    let fits = rows_le (c.loop-r.r + 1) c.args.count b.width (omega arith) in
    omega (arith, fits, spread c.loop-r.r b.width, c.requires.room, c.loop-r.invariant.put.size)
  where
    spread : (a m : ℕ) → (a + 1) * m ≡ a * m + m
    spread a m = omega arith

pub returns-clause-made : goal.returns-clause-made
returns-clause-made g c = λ r i d e lt less. c.loop-r.invariant.made r i d e (omega (arith, lt)) less

pub overflow_add-wide : goal.overflow_add-wide
overflow_add-wide g c =
    let b = c.args.boxes in
    let fits = rows_le 1 c.args.count (b.width + (b.across - 1)) (omega (arith, c.requires.some)) in
    omega (arith, fits, c.requires.uppers)
