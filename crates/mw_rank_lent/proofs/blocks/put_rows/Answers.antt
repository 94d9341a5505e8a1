use Rattle.std.proofs.Common.{◌≡◌, ℕ, ◌+◌, ◌*◌, refl, ap, subst, arith}
use Rattle.std.proofs.lemmas.Nat.{mul-le}
use Rattle.mw_model.specs.declared.offsets.Rect.{Rect}
use Rattle.mw_rank_lent.specs.Middles.{PutsCells, PutsMedians, median_at}
use Rattle.mw_rank_lent.proofs.Puts.{row_on}
use Rattle.mw_rank_lent.proofs.blocks.put_rows.Goals as goal

pub loop-row-init : goal.loop-row-init
loop-row-init g c = record { size = refl; kept = λ p d lt. refl; made = λ x j d across lt. absurd (omega (arith, lt)) }

pub put_row-requires : goal.put_row-requires
put_row-requires g c =
    let width = ap (λ (t : Rect). t.width) c.place-width.ensures.value in
    let row = c.loop-row.row in
    let w = c.args.lent.now in
    record {
      middle = c.requires.middle;
      inner = c.requires.inner;
      wide = c.requires.wide;
      row = omega arith;
      left = c.requires.left;
      right = c.requires.right;
      room = omega (arith, c.requires.room, c.loop-row.invariant.size, ap (λ (t : ℕ). row * t) width, mul-le (row + 1) w.place.width c.args.sides.rows w.place.width (omega arith) (omega arith), next row w.place.width);
    }
  where
    next : (a n : ℕ) → (a + 1) * n ≡ a * n + n
    next a n = omega arith

pub loop-row-preserved : goal.loop-row-preserved
loop-row-preserved g c =
    let level = g.P.Pixel.level in
    let w = c.args.lent.now in
    let s = c.args.square in
    let row = c.loop-row.row in
    let width = ap (λ (t : Rect). t.width) c.place-width.ensures.value in
    let value = λ (x j : ℕ). median_at level w s (w.place.x + x) (c.args.sides.y + j) in
    row_on level value w.place.width row c.args.at c.args.out.now c.loop-row.out c.put_row.new.out c.loop-row.invariant
    (subst (λ (t : ℕ). PutsCells level (λ x. value x row) (c.args.at + row * t) w.place.width c.loop-row.out c.put_row.new.out) width c.put_row.ensures)

pub returns : goal.returns
returns g c =
    let all : c.loop-row.row ≡ c.args.sides.rows = omega arith in
    subst (λ (n : ℕ). PutsMedians g.P.Pixel.level c.args.lent.now c.args.square c.args.sides.y n c.args.at c.args.out.now c.loop-row.out) all c.loop-row.invariant
