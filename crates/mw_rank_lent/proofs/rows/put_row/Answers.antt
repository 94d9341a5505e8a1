use Rattle.std.proofs.Common.{◌≡◌, ℕ, ◌+◌, ◌-◌, ◌*◌, ap, subst, arith}
use Rattle.mw_model.specs.declared.offsets.Rect.{Rect}
use Rattle.mw_rank_lent.specs.Middles.{PutsCells, median_at}
use Rattle.mw_rank_lent.proofs.Puts.{lines_put, puts_on, puts_same}
use Rattle.mw_rank_lent.proofs.rows.put_row.Goals as goal

pub put_cells-requires : goal.put_cells-requires
put_cells-requires g c = record { row = c.requires.row; size = c.requires.left.size; room = omega (arith, c.requires.room, c.requires.wide) }

pub put_inner-requires : goal.put_inner-requires
put_inner-requires g c =
    let width = ap (λ (t : Rect). t.width) c.place-width.ensures.value in
    record {
      middle = c.requires.middle;
      inner = record { above = omega (arith, c.requires.inner.above); below = omega (arith, c.requires.inner.below, c.requires.row); wide = c.requires.inner.wide };
      wide = omega (arith, width, c.requires.wide);
      count = omega (arith, width, c.requires.wide);
      room = omega (arith, width, c.requires.room, c.requires.wide);
    }

pub put_cells-requires-2 : goal.put_cells-requires-2
put_cells-requires-2 g c =
    let width = ap (λ (t : Rect). t.width) c.place-width.ensures.value in
    record { row = c.requires.row; size = c.requires.right.size; room = omega (arith, width, c.requires.room, c.requires.wide) }

pub returns : goal.returns
returns g c =
    let level = g.P.Pixel.level in
    let top = g.P.Pixel.TOP in
    let w = c.args.lent.now in
    let s = c.args.square in
    let sides = c.args.sides in
    let y : ℕ = sides.y + c.args.row in
    let at = c.args.at in
    let r = s.reach in
    let value = λ (i : ℕ). median_at level w s (w.place.x + i) y in
    let width = ap (λ (t : Rect). t.width) c.place-width.ensures.value in
    let n : ℕ = w.place.width - 2 * r in
    let first = lines_put level (λ i e. median_at level w s (w.place.x + e) (sides.y + i)) top at r sides.rows c.args.row c.args.out.now c.put_cells.new.out sides.left.now (omega arith) (omega arith) c.requires.row c.put_cells.ensures.kept c.put_cells.ensures.made c.requires.left in
    let inner : PutsCells level (λ i. value (r + i)) (at + r) n c.put_cells.new.out c.put_inner.new.out =
    puts_same level (λ i. median_at level w s (w.place.x + r + i) y) (λ i. value (r + i)) (at + r) n c.put_cells.new.out c.put_inner.new.out (λ i lt. ap (λ (t : ℕ). median_at level w s t y) (let e : w.place.x + r + i ≡ w.place.x + (r + i) = omega arith in e))
    (subst (λ (t : ℕ). PutsCells level (λ i. median_at level w s (w.place.x + r + i) y) (at + r) (t - 2 * r) c.put_cells.new.out c.put_inner.new.out) width c.put_inner.ensures) in
    let here : at + c.place-width.result.width - r ≡ at + (r + n) = omega (arith, width, c.requires.wide) in
    let last = lines_put level (λ i e. median_at level w s (w.place.x + (w.place.width - r) + e) (sides.y + i)) top (at + c.place-width.result.width - r) r sides.rows c.args.row c.put_inner.new.out c.put_cells-2.new.out sides.right.now (omega arith) (omega (arith, width)) c.requires.row c.put_cells-2.ensures.kept c.put_cells-2.ensures.made c.requires.right in
    let end : PutsCells level (λ i. value (r + n + i)) (at + (r + n)) r c.put_inner.new.out c.put_cells-2.new.out =
    puts_same level (λ i. median_at level w s (w.place.x + (w.place.width - r) + i) y) (λ i. value (r + n + i)) (at + (r + n)) r c.put_inner.new.out c.put_cells-2.new.out
    (λ i lt. ap (λ (t : ℕ). median_at level w s t y) (let e : w.place.x + (w.place.width - r) + i ≡ w.place.x + (r + n + i) = omega (arith, c.requires.wide) in e))
    (subst (λ (p : ℕ). PutsCells level (λ i. median_at level w s (w.place.x + (w.place.width - r) + i) y) p r c.put_inner.new.out c.put_cells-2.new.out) here last) in
    let both = puts_on level value at r n c.args.out.now c.put_cells.new.out c.put_inner.new.out first inner in
    let all = puts_on level value at (r + n) r c.args.out.now c.put_inner.new.out c.put_cells-2.new.out both end in
    subst (λ (t : ℕ). PutsCells level value at t c.args.out.now c.put_cells-2.new.out) (let e : r + n + r ≡ w.place.width = omega (arith, c.requires.wide) in e) all

pub overflow_add-sides : goal.overflow_add-sides
overflow_add-sides g c =
    let y-is = ap (λ (t : Rect). t.y) c.place-width.ensures.value in
    let high = ap (λ (t : Rect). t.height) c.place-width.ensures.value in
    omega (arith, c.requires.inner.below, c.requires.row, c.place-width.ensures.within.down, c.frame_height-height.ensures, y-is, high)
