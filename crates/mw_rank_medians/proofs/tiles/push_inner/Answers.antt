use Rattle.std.proofs.Common.{◌≡◌, ℕ, ◌+◌, ◌*◌, ◌∙◌, List, ap, arith, get_or, subst}
use Rattle.mw_model.specs.PlanSteps.{ranked}
use Rattle.mw_model.specs.declared.offsets.Rect.{Rect}
use Rattle.mw_model.specs.Windows.{seen_at}
use Rattle.mw_rank.specs.Ranks.{levels_under}
use Rattle.mw_rank_medians.specs.Filled.{filled_rank}
use Rattle.mw_rank_medians.specs.Squares.{offset_rows, ShowsSquare}
use Rattle.mw_rank_medians.proofs.Joined.{medians_gained}
use Rattle.mw_rank_medians.proofs.Medians.{median_is, median_some}
use Rattle.mw_rank_medians.proofs.tiles.push_inner.Goals as goal

pub square_in-requires-clause-some : goal.square_in-requires-clause-some
square_in-requires-clause-some g c = (median_some c.args.wanted.side c.args.wanted.k c.requires.median).0

pub returns-in-Some-clause-medians : goal.returns-in-Some-clause-medians
returns-in-Some-clause-medians g c =
    let level = g.P.Pixel.level in
    let top = g.P.Pixel.TOP in
    let wanted = c.args.wanted in
    let w = wanted.window.now in
    let count = wanted.inner.count in
    let x = wanted.tile.x + wanted.inner.first in
    let y = wanted.tile.y + c.args.row in
    let square = offset_rows wanted.first wanted.side wanted.side in
    let shows = λ (a b : ℕ). ShowsSquare level top (seen_at w) w.cells square a b count c.in-Some.from w.place.width wanted.side in
    let shown = subst (λ (a : ℕ). shows a y) c.from.ensures (subst (λ (b : ℕ). shows c.from.result b) c.from-2.ensures c.in-Some.ensures) in
    medians_gained level top c.samples.result.now c.in-Some.from c.place.result.width wanted.side wanted.k count (λ i. ranked wanted.k (levels_under level (seen_at w) wanted.offsets.now (x + i) y)) c.args.out.now.items c.push_medians.new.out.items
    (λ i v lt number.
    median_is level top (seen_at w) w.cells c.samples.result.now wanted.offsets.now square x y count c.in-Some.from c.place.result.width w.place.width wanted.side i wanted.k v c.samples.ensures.value
    (ap (λ (t : Rect). t.width) c.place.ensures.value) c.requires.square shown lt (median_some wanted.side wanted.k c.requires.median).1 number)
    c.in_ok-push_medians.ensures.medians

pub returns-clause-medians : goal.returns-clause-medians
returns-clause-medians g c = c.push_cut.ensures

pub push_cut-requires-clause-filled : goal.push_cut-requires-clause-filled
push_cut-requires-clause-filled g c = λ i lt low.
    let level = g.P.Pixel.level in
    let top = g.P.Pixel.TOP in
    let wanted = c.args.wanted in
    let count = wanted.inner.count in
    let items = c.in_ok-medians.medians.items in
    let y = wanted.tile.y + c.args.row in
    ap (λ (l : List _). level (get_or l (0 + i * 1) top)) c.as_slice.ensures.value
    ∙ ap (λ (p : ℕ). level (get_or items p top)) (let e : 0 + i * 1 ≡ 0 * count + i = omega arith in e)
    ∙ c.in_ok-medians.ensures.made i 0 top lt (omega arith)
    ∙ ap (filled_rank level g.P.Pixel.top_level (seen_at wanted.window.now) wanted.first wanted.side wanted.k (wanted.tile.x + wanted.inner.first + i)) (let e : y + 0 ≡ y = omega arith in e)
