use Rattle.std.proofs.Common.{ℕ, ◌<◌, get_or, refl, arith, ◌∙◌}
use Rattle.std.proofs.lemmas.List.{get_or_default}
use Rattle.mw_model.proofs.mw_facts.Alls.{all-get_or}
use Rattle.mw_rank_bits.proofs.Weights.{marks_none, marks_next}
use Rattle.mw_rank_bits.proofs.moves.marks_of.Goals as goal

pub loop-i-init : goal.loop-i-init
loop-i-init c = marks_none c.args.places.now c.args.count c.in_ok-marks.marks.items c.in_ok-marks.ensures

pub loop-i-preserved : goal.loop-i-preserved
loop-i-preserved c =
    let places = c.args.places.now in
    let i = c.loop-i.i in
    let inside : get_or places i 0 < c.args.count = all-get_or (λ (s : ℕ). s < c.args.count) places i 0 c.loop-i-test.true c.requires in
    marks_next places c.args.count i (get_or places i 0) c.index_mut.result.now c.loop-i.marks.items refl (c.index_mut.ensures.value ∙ get_or_default c.loop-i.marks.items (get_or places i 0) _ 0 (omega (arith, inside, c.loop-i.invariant.size))) c.loop-i-test.true inside c.loop-i.invariant
