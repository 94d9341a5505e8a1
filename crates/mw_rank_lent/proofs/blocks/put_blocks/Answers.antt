use Rattle.std.proofs.Common.{◌≡◌, ℕ, ◌+◌, ◌*◌, refl, ap, arith, ◌∙◌}
use Rattle.std.proofs.lemmas.Nat.{mul-le}
use Rattle.mw_model.specs.declared.offsets.Rect.{Rect}
use Rattle.mw_rank_lent.specs.Middles.{PutsRows, median_at}
use Rattle.mw_rank_lent.proofs.Puts.{block_on, has_made, rows_same}
use Rattle.mw_rank_lent.proofs.blocks.put_blocks.Goals as goal

pub put_block-requires : goal.put_block-requires
put_block-requires g c =
    let w = c.args.lent.now in
    let rows = c.args.area.rows in
    let from = c.min-from.result in
    let width = ap (λ (t : Rect). t.width) c.place-width.ensures.value in
    let inner = c.requires.inner in
    record {
      middle = c.requires.middle;
      inner = record { above = omega (arith, inner.above); below = omega (arith, inner.below, c.min-from.ensures, c.requires.high); wide = inner.wide };
      wide = c.requires.wide;
      tall = c.requires.tall;
      lines = c.by_block.invariant.lines ∙ c.requires.lines;
      left = c.by_block.invariant.left ∙ c.requires.left;
      right = c.by_block.invariant.right ∙ c.requires.right;
      room = omega (
        arith,
        c.requires.room,
        c.by_block.invariant.size,
        ap (λ (t : ℕ). from * t) width,
        mul-le (from + rows) w.place.width c.args.area.height w.place.width (omega (arith, c.min-from.ensures, c.requires.high)) (omega arith),
        split from rows w.place.width,
      );
    }
  where
    split : (a b n : ℕ) → (a + b) * n ≡ a * n + b * n
    split a b n = omega arith

pub by_block-preserved : goal.by_block-preserved
by_block-preserved g c =
    let level = g.P.Pixel.level in
    let w = c.args.lent.now in
    let s = c.args.area.square in
    let y = c.args.area.y in
    let rows = c.args.area.rows in
    let from = c.min-from.result in
    let width = ap (λ (t : Rect). t.width) c.place-width.ensures.value in
    let value = λ (x j : ℕ). median_at level w s (w.place.x + x) (y + j) in
    let block : PutsRows level (λ x j. value x (from + j)) w.place.width rows (from * c.place-width.result.width) c.by_block.out c.put_block.new.out =
    rows_same level (λ x j. median_at level w s (w.place.x + x) (y + from + j)) (λ x j. value x (from + j)) w.place.width rows (from * c.place-width.result.width) c.by_block.out c.put_block.new.out (λ x j. ap (median_at level w s (w.place.x + x)) (let e : y + from + j ≡ y + (from + j) = omega arith in e)) c.put_block.ensures in
    record {
      within = omega arith;
      lines = omega arith;
      left = omega arith;
      right = omega arith;
      size = c.put_block.ensures.size ∙ c.by_block.invariant.size;
      made = block_on level value w.place.width from rows c.by_block.done (from + rows) (from * c.place-width.result.width) c.by_block.out c.put_block.new.out (omega (arith, c.min-from.ensures)) refl (ap (λ (t : ℕ). from * t) width) block c.by_block.invariant.made;
    }

pub by_block-init : goal.by_block-init
by_block-init g c = record { within = omega arith; lines = refl; left = refl; right = refl; size = refl; made = λ x j d across lt. absurd (omega (arith, lt)) }

pub returns : goal.returns
returns g c =
    let level = g.P.Pixel.level in
    let w = c.args.lent.now in
    has_made level (λ x j. median_at level w c.args.area.square (w.place.x + x) (c.args.area.y + j)) w.place.width c.args.area.height c.by_block.done c.by_block.out (omega arith) (c.by_block.invariant.size ∙ c.requires.room) c.by_block.invariant.made

pub overflow_add-block : goal.overflow_add-block
overflow_add-block g c =
    let y-is = ap (λ (t : Rect). t.y) c.place-width.ensures.value in
    let high = ap (λ (t : Rect). t.height) c.place-width.ensures.value in
    omega (arith, c.requires.inner.below, c.min-from.ensures, c.place-width.ensures.within.down, c.frame_height-height.ensures, y-is, high)
