use Rattle.std.proofs.Common.{◌≡◌, ℕ, ◌+◌, ◌-◌, ◌*◌, length, get_or, refl, ap, arith}
use Rattle.mw_model.specs.declared.offsets.Rect.{Rect}
use Rattle.mw_model.proofs.mw_facts.Parts.{length-put_mid}
use Rattle.mw_rank_lent.specs.Middles.{median_at}
use Rattle.mw_rank_lent.proofs.Middle.{inner_inside, inner_median}
use Rattle.mw_rank_lent.proofs.Puts.{part_puts}
use Rattle.mw_rank_lent.proofs.rows.put_inner.Goals as goal

pub medians_of_row-requires-clause-inside : goal.medians_of_row-requires-clause-inside
medians_of_row-requires-clause-inside g c =
    let w = c.args.lent.now in
    let s = c.args.square in
    let width = ap (λ (t : Rect). t.width) c.place-place.ensures.value in
    let y-is = ap (λ (t : Rect). t.y) c.place-place.ensures.value in
    inner_inside g.P.Pixel.level g.P.Pixel.TOP w s c.args.y (c.args.y - s.reach - w.place.y) c.args.count _ c.place-place.result.width c.samples.result.now c.requires.middle c.samples.ensures.size c.requires.inner refl c.requires.count c.samples.ensures.value width
    (ap (λ (t : ℕ). (c.args.y - s.reach - t) * c.place-place.result.width) y-is) _ (omega arith)

pub returns : goal.returns
returns g c =
    let level = g.P.Pixel.level in
    let top = g.P.Pixel.TOP in
    let w = c.args.lent.now in
    let s = c.args.square in
    let at = c.args.at in
    let n = c.args.count in
    let part = c.medians_of_row.new.out in
    let m : ℕ = at + n - at in
    let long : length part ≡ n = omega arith in
    let width = ap (λ (t : Rect). t.width) c.place-place.ensures.value in
    let y-is = ap (λ (t : Rect). t.y) c.place-place.ensures.value in
    part_puts level (λ i. median_at level w s (w.place.x + s.reach + i) c.args.y) top at m n c.args.out.now part _ refl (length-put_mid at m c.args.out.now part (omega (arith, long)) (omega (arith, c.requires.room))) c.requires.room long
    (λ i lt. inner_median level top w s c.args.y (c.args.y - s.reach - w.place.y) n _ c.place-place.result.width i (level (get_or part i top)) c.samples.result.now c.requires.middle c.samples.ensures.size c.requires.inner refl c.requires.count c.samples.ensures.value width
    (ap (λ (t : ℕ). (c.args.y - s.reach - t) * c.place-place.result.width) y-is) lt (c.medians_of_row.ensures.medians i (omega (arith, lt, long))))
