use Rattle.std.proofs.Common.{◌≡◌, ℕ, ◌+◌, ◌*◌, ◌<◌, subst, arith}
use Rattle.mw_rank_bits.specs.Moves.{place_in, HasChanged}
use Rattle.mw_rank_bits.proofs.Weights.{changed_none, changed_more, place_small}
use Rattle.mw_rank_bits.proofs.moves.changes_by_marks.Goals as goal

pub loop-t-init : goal.loop-t-init
loop-t-init c = changed_none c.args.marks.now c.args.sheet.columns c.args.sheet.wide _ c.new-entered.result.items c.new-left.result.items c.new-entered.ensures.items c.new-left.ensures.items

pub widened-place-requires-clause-fits : goal.widened-place-requires-clause-fits
widened-place-requires-clause-fits c =
    let before : c.loop-t.t < c.args.sheet.rows * c.args.sheet.columns + c.args.sheet.columns = omega (arith, c.loop-t-test.true, c.requires.size) in
    let small = place_small c.args.sheet.columns c.args.sheet.wide c.loop-t.t c.args.sheet.rows c.requires.some before in
    omega (arith, small, c.requires.fits)

pub loop-t-preserved : goal.loop-t-preserved
loop-t-preserved c =
    let marks = c.args.marks.now in
    let columns = c.args.sheet.columns in
    let wide = c.args.sheet.wide in
    let limit = c.args.sheet.rows * wide + columns in
    let before : c.loop-t.t < c.args.sheet.rows * columns + columns = omega (arith, c.loop-t-test.true, c.requires.size) in
    let small : place_in columns wide c.loop-t.t < limit = place_small columns wide c.loop-t.t c.args.sheet.rows c.requires.some before in
    let inside : c.widened-place.result < limit = omega (arith, small, c.widened-place.ensures) in
    changed_more marks columns wide limit c.loop-t.t c.widened-place.result c.mark_at-here.result c.mark_above-above.result c.saturating_sub.result c.saturating_sub-in-loop-t.result
    c.loop-t.entered.items c.loop-t.left.items c.push_times.new.places.items c.push_times-in-loop-t.new.places.items c.widened-place.ensures c.mark_at-here.ensures c.mark_above-above.ensures c.saturating_sub.ensures c.saturating_sub-in-loop-t.ensures inside
    c.in_ok-push_times.ensures.sum c.in_ok-push_times.ensures.below c.in_ok-push_times-2.ensures.sum c.in_ok-push_times-2.ensures.below c.loop-t.invariant

pub returns : goal.returns
returns c =
    let marks = c.args.marks.now in
    let columns = c.args.sheet.columns in
    let wide = c.args.sheet.wide in
    let limit = c.args.sheet.rows * wide + columns in
    let end : c.loop-t.t ≡ c.args.sheet.rows * columns + columns = omega (arith, c.loop-t-test.false, c.loop-t.auto.t-end, c.requires.size) in
    subst (λ (t : ℕ). HasChanged marks columns wide limit t c.loop-t.entered.items c.loop-t.left.items) end c.loop-t.invariant
