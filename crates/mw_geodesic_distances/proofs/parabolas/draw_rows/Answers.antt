use Rattle.std.proofs.Common.{◌≡◌, ◌+◌, ◌-◌, ◌*◌, ◌∙◌, ℕ, length, take, drop, length-take, length-drop, refl, sym, subst, arith}
use borrow.Rule.Slice.PartMut.{put_mid}
use Rattle.mw_geodesic_distances.specs.Rows.{distance_at}
use Rattle.mw_geodesic_distances.specs.Grids.{grid}
use Rattle.mw_geodesic_distances.specs.Envelopes.{IsNearest}
use Rattle.mw_geodesic_distances.proofs.Lists.{row_put, row_part, rows_fit}
use Rattle.mw_geodesic_distances.proofs.Drawn.{squared_none, squared_more}
use Rattle.mw_geodesic_distances.proofs.parabolas.draw_rows.Goals as goal

pub loop-y-init : goal.loop-y-init
loop-y-init c = squared_none c.args.frame c.args.top (grid c.args.frame.width c.args.numbers.now)

pub loop-y-preserved : goal.loop-y-preserved
loop-y-preserved c =
    let frame = c.args.frame in
    let w = frame.width in
    let h = frame.height in
    let y = c.loop-y.y in
    let xs = c.loop-y.numbers in
    let made = c.nearest.new.row in
    let m = y * w + w - y * w in
    let row = take m (drop (y * w) xs) in
    let inside = c.loop-y-test.true in
    let size : length xs ≡ h * w = omega (arith, c.loop-y.auto.numbers, c.requires.size) in
    let fits = rows_fit y h w inside in
    let m-is : m ≡ w = omega arith in
    let whole : length row ≡ w = omega (arith, length-take m (drop (y * w) xs), length-drop (y * w) xs) in
    let put = row_put w h y (y * w) m xs made refl m-is inside size (c.nearest.auto.row ∙ whole ∙ sym m-is) in
    squared_more frame c.args.top y (grid w c.args.numbers.now) (grid w xs) (grid w (put_mid (y * w) m xs made)) (distance_at row) (distance_at made) inside (λ x lt. row_part w y (y * w) m xs x refl m-is lt)
    (λ x lt. subst (λ (t : ℕ). IsNearest (distance_at row) t c.args.top x (distance_at made x)) whole (c.nearest.ensures x (omega (arith, whole)))) put c.loop-y.invariant

pub returns : goal.returns
returns c = λ x y p q. c.loop-y.invariant.done x y p (omega (arith, c.loop-y-test.false)) q
