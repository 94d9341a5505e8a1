use Rattle.std.proofs.Common.{◌≡◌, ℕ, ◌+◌, ◌-◌, ap, subst, arith, ◌∙◌}
use Rattle.mw_model.specs.declared.offsets.Rect.{Rect}
use Rattle.mw_rank_medians.specs.mw_rank.Ranks.{HasRows}
use Rattle.mw_rank_lent.specs.Middles.{median_at}
use Rattle.mw_rank_lent.proofs.blocks.put_block.Goals as goal

pub put_side-requires : goal.put_side-requires
put_side-requires g c =
    let x-is = ap (λ (t : Rect). t.x) c.place-place.ensures.value in
    record { middle = c.requires.middle; inner = c.requires.inner; left = omega (arith, x-is); right = omega (arith, x-is, c.requires.wide); tall = c.requires.tall; lines = c.requires.lines; size = c.requires.left }

pub put_side-requires-2 : goal.put_side-requires-2
put_side-requires-2 g c =
    let x-is = ap (λ (t : Rect). t.x) c.place-place.ensures.value in
    let width = ap (λ (t : Rect). t.width) c.place-place.ensures.value in
    record {
      middle = c.requires.middle;
      inner = c.requires.inner;
      left = omega (arith, x-is);
      right = omega (arith, x-is, width, c.requires.wide);
      tall = c.requires.tall;
      lines = c.put_side.ensures.lines ∙ c.requires.lines;
      size = c.requires.right;
    }

pub put_rows-requires : goal.put_rows-requires
put_rows-requires g c =
    let level = g.P.Pixel.level in
    let w = c.args.lent.now in
    let b = c.args.block in
    let s = b.square in
    let x-is = ap (λ (t : Rect). t.x) c.place-place.ensures.value in
    let width = ap (λ (t : Rect). t.width) c.place-place.ensures.value in
    record {
      middle = c.requires.middle;
      inner = c.requires.inner;
      wide = c.requires.wide;
      left = subst (λ (p : ℕ). HasRows level (λ i e. median_at level w s (p + e) (b.y + i)) b.rows s.reach c.put_side.new.made) x-is c.put_side.ensures.medians;
      right = subst (λ (p : ℕ). HasRows level (λ i e. median_at level w s (p + e) (b.y + i)) b.rows s.reach c.put_side-2.new.made)
          (let e : c.place-place.result.x + (c.place-place.result.width - s.reach) ≡ w.place.x + (w.place.width - s.reach) = omega (arith, x-is, width) in e)
          c.put_side-2.ensures.medians;
      room = c.requires.room;
    }

pub overflow_add-last : goal.overflow_add-last
overflow_add-last g c = omega (arith, c.place-place.ensures.within.across, c.frame_width-width.ensures)
