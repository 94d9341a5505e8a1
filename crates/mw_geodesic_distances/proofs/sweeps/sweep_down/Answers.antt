use Rattle.std.proofs.Common.{◌≡◌, ◌+◌, ◌-◌, ◌*◌, ◌∙◌, ℕ, List, length, take, drop, length-take, length-drop, refl, sym, ap, subst, arith}
use borrow.Rule.Slice.PartMut.{put_mid}
use Rattle.mw_geodesic_distances.specs.Rows.{distance_at, IsStepRight}
use Rattle.mw_geodesic_distances.specs.Grids.{grid}
use Rattle.mw_geodesic_distances.proofs.Lists.{row_put, row_part, rows_fit}
use Rattle.mw_geodesic_distances.proofs.Swept.{down_none, down_more, down_all}
use Rattle.mw_geodesic_distances.proofs.sweeps.sweep_down.Goals as goal

pub loop-y-init : goal.loop-y-init
loop-y-init c = down_none c.args.frame c.args.top (grid c.args.frame.width c.args.numbers.now) (distance_at c.fill.new.row) (λ u lt. c.fill.ensures u (omega (arith, c.requires.other)))

pub loop-y-preserved : goal.loop-y-preserved
loop-y-preserved c =
    let frame = c.args.frame in
    let w = frame.width in
    let h = frame.height in
    let y = c.loop-y.y in
    let xs = c.loop-y.numbers in
    let made = c.step_right.new.row in
    let m = y * w + w - y * w in
    let row = take m (drop (y * w) xs) in
    let inside = c.loop-y-test.true in
    let size : length xs ≡ h * w = omega (arith, c.loop-y.auto.numbers, c.requires.size) in
    let fits = rows_fit y h w inside in
    let m-is : m ≡ w = omega arith in
    let whole : length row ≡ w = omega (arith, length-take m (drop (y * w) xs), length-drop (y * w) xs) in
    let step = subst (λ (t : ℕ). IsStepRight frame.reach t (distance_at c.loop-y.other) (distance_at row) (distance_at made)) whole c.step_right.ensures.step in
    let put = row_put w h y (y * w) m xs made refl m-is inside size (c.step_right.auto.row ∙ whole ∙ sym m-is) in
    down_more frame c.args.top y (grid w c.args.numbers.now) (grid w xs) (grid w (put_mid (y * w) m xs made)) (distance_at c.loop-y.other) (distance_at row) (distance_at made) (distance_at c.step_right.new.other) inside c.requires.low c.loop-y.invariant
    (λ x lt. row_part w y (y * w) m xs x refl m-is lt) step put (λ x. ap (λ (t : List ℕ). distance_at t x) c.step_right.ensures.copy)

pub returns-clause-lowered : goal.returns-clause-lowered
returns-clause-lowered c = c.loop-y.invariant.lowered

pub returns-clause-forward : goal.returns-clause-forward
returns-clause-forward c = down_all c.args.frame c.args.top c.loop-y.y (grid c.args.frame.width c.args.numbers.now) (grid c.args.frame.width c.loop-y.numbers) (distance_at c.loop-y.other) (omega (arith, c.loop-y-test.false)) c.loop-y.invariant
