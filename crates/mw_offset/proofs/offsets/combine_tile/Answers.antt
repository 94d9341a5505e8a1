use Rattle.std.proofs.Common.{arith, ℕ, ap, ◌∙◌, get_or, ◌+◌, ◌-◌, ◌*◌, ◌≡◌, length, length-take, length-drop, take, drop, fold}
use Rattle.mw_model.specs.Rasters.{seen_under}
use Rattle.mw_model.specs.Windows.{seen_at}
use Rattle.mw_line.proofs.Rows.{rows_more, rows_fit}
use Rattle.mw_offset.proofs.offsets.combine_tile.Goals as goal

pub loop-y-preserved : goal.loop-y-preserved
loop-y-preserved g c =
    let f = g.E.Extremum.merge in
    let tile = c.args.tile in
    let w = tile.width in
    let y = c.loop-y.y in
    let m = y * w + w - y * w in
    let fits = rows_fit y tile.height w c.loop-y-test.true in
    let whole : length (take m (drop (y * w) c.loop-y.out)) ≡ w = omega (arith, length-take m (drop (y * w) c.loop-y.out), length-drop (y * w) c.loop-y.out, c.loop-y.invariant.size, fits) in
    let column : c.from.result ≡ tile.x = omega arith in
    let row : c.from-in-loop-y.result + c.from-in-loop-y-2.result ≡ tile.y + y = omega arith in
    rows_more (λ best x j. fold f best (seen_under (seen_at c.args.window.now) c.args.offsets.now (tile.x + x) (tile.y + j))) w tile.height y m c.args.out.now c.loop-y.out c.combine_offsets.new.out
    c.loop-y-test.true (omega arith) (omega (arith, c.combine_offsets.auto.out, whole)) (λ x d less. c.combine_offsets.ensures x d (omega (arith, whole))
    ∙ ap (λ (t : ℕ). fold f (get_or (take m (drop (y * w) c.loop-y.out)) x d) (seen_under (seen_at c.args.window.now) c.args.offsets.now (t + x) (c.from-in-loop-y.result + c.from-in-loop-y-2.result))) column
    ∙ ap (λ (t : ℕ). fold f (get_or (take m (drop (y * w) c.loop-y.out)) x d) (seen_under (seen_at c.args.window.now) c.args.offsets.now (tile.x + x) t)) row)
    c.loop-y.invariant
