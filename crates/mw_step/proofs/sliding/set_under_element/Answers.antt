use Rattle.mw_model.specs.Windows.{seen_at}
use Rattle.mw_rank_bits.proofs.mw_line.Folds.{IsExtremum}
use Rattle.mw_step.proofs.SameMembers.{box_slides}
use Rattle.mw_step.proofs.sliding.set_under_element.Goals as goal

pub returns-in_ok-rectangle-in-Some : goal.returns-in_ok-rectangle-in-Some
returns-in_ok-rectangle-in-Some g c =
    let f = g.E.Extremum.merge in
    let laws : IsExtremum f = record { commutes = g.met.E.Extremum.commutes; associates = g.met.E.Extremum.associates; is_idempotent = g.met.E.Extremum.is_idempotent } in
    box_slides f laws (g.E.Extremum.neutral_of 1) (seen_at c.args.set.now) c.in-Some.offsets c.args.element.now.offsets c.args.tile c.in_ok-rectangle-in-Some.field-0 c.in-Some.ensures.some c.in_ok-rectangle-in-Some.ensures.over_window
