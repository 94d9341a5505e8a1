use Rattle.std.proofs.Common.{◌≡◌, ◌+◌, ◌-◌, ◌*◌, ◌∙◌, ◌<◌, ℕ, List, length, take, drop, length-take, length-drop, sym, ap, subst, arith}
use borrow.Rule.Slice.PartMut.{put_mid}
use Rattle.mw_geodesic_distances.specs.Rows.{distance_at, IsLoweredStraight}
use Rattle.mw_geodesic_distances.specs.Grids.{grid}
use Rattle.mw_geodesic_distances.proofs.Lists.{row_put, row_part, rows_fit}
use Rattle.mw_geodesic_distances.proofs.Gaps.{IsLoweredBack, back_none, back_more, back_all}
use Rattle.mw_geodesic_distances.proofs.columns.lower_up.Goals as goal

pub loop-done-init : goal.loop-done-init
loop-done-init c =
    back_none c.args.frame (c.args.frame.height - 0) (grid c.args.frame.width c.args.numbers.now) (distance_at c.fill.new.row) (omega arith) (λ u lt. c.fill.ensures u (omega (arith, c.requires.other)))

pub loop-done-preserved : goal.loop-done-preserved
loop-done-preserved c =
    let frame = c.args.frame in
    let w = frame.width in
    let h = frame.height in
    let y = h - (c.loop-done.done + 1) in
    let start = (h - 1 - c.loop-done.done) * w in
    let xs = c.loop-done.numbers in
    let made = c.step_straight.new.row in
    let m = start + w - start in
    let row = take m (drop start xs) in
    let test = c.loop-done-test.true in
    let inside : y < h = omega arith in
    let next : y + 1 ≡ h - c.loop-done.done = omega arith in
    let size : length xs ≡ h * w = omega (arith, c.loop-done.auto.numbers, c.requires.size) in
    let place : h - 1 - c.loop-done.done ≡ y = omega arith in
    let start-is : start ≡ y * w = ap (λ (t : ℕ). t * w) place in
    let fits = rows_fit y h w inside in
    let m-is : m ≡ w = omega arith in
    let whole : length row ≡ w = omega (arith, length-take m (drop start xs), length-drop start xs) in
    let step = subst (λ (t : ℕ). IsLoweredStraight t (distance_at c.loop-done.other) (distance_at row) (distance_at made)) whole c.step_straight.ensures.step in
    let put = row_put w h y start m xs made start-is m-is inside size (c.step_straight.auto.row ∙ whole ∙ sym m-is) in
    back_more frame y (h - c.loop-done.done) (grid w c.args.numbers.now) (grid w xs) (grid w (put_mid start m xs made)) (distance_at c.loop-done.other) (distance_at row) (distance_at made) (distance_at c.step_straight.new.other) next inside
    c.requires.low c.loop-done.invariant (λ x lt. row_part w y start m xs x start-is m-is lt) step put (λ x. ap (λ (t : List ℕ). distance_at t x) c.step_straight.ensures.copy)

pub returns : goal.returns
returns c =
    let frame = c.args.frame in
    let w = frame.width in
    let end : frame.height - c.loop-done.done ≡ 0 = omega (arith, c.loop-done-test.false) in
    back_all frame (grid w c.args.numbers.now) (grid w c.loop-done.numbers) (distance_at c.loop-done.other)
    (subst (λ (t : ℕ). IsLoweredBack frame t (grid w c.args.numbers.now) (grid w c.loop-done.numbers) (distance_at c.loop-done.other)) end c.loop-done.invariant)
