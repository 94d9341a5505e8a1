use Rattle.std.proofs.lemmas.Result.{IfOk-weaker}
use Rattle.mw_model.specs.Windows.{seen_at}
use Rattle.mw_model.specs.Rectangles.{box_offsets}
use Rattle.mw_rank_bits.specs.mw_line.Extrema.{IsSlidingExtremum}
use Rattle.mw_rank_bits.proofs.mw_line.Folds.{IsExtremum}
use Rattle.mw_step.proofs.SameMembers.{box_slides}
use Rattle.mw_step.proofs.sliding.under_element.Goals as goal

pub returns-in-Some : goal.returns-in-Some
returns-in-Some g c =
    let f = g.E.Extremum.merge in
    let neutral = g.E.Extremum.neutral_of c.args.maxval in
    let laws : IsExtremum f = record { commutes = g.met.E.Extremum.commutes; associates = g.met.E.Extremum.associates; is_idempotent = g.met.E.Extremum.is_idempotent } in
    let sight = seen_at c.args.window.now in
    let e = c.args.element.now.offsets in
    let box = c.in-Some.offsets in
    IfOk-weaker c.under_box.result (IsSlidingExtremum f neutral sight (box_offsets box) c.args.tile) (IsSlidingExtremum f neutral sight e c.args.tile)
    (λ r slides. box_slides f laws neutral sight box e c.args.tile r c.in-Some.ensures.some slides) c.under_box.ensures
