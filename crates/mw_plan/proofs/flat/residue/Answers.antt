use Rattle.std.proofs.Common.{[], ◌∷◌, ◌++◌, ap, ◌∙◌}
use Rattle.mw_model.specs.Plans.{Planned}
use Rattle.mw_plan.specs.Asked.{offsets_of_input}
use Rattle.mw_plan.proofs.OneImage.{residue_makes}
use Rattle.mw_plan.proofs.flat.residue.Goals as goal

pub returns-clause-makes : goal.returns-clause-makes
returns-clause-makes c =
    residue_makes c.args.extremum (offsets_of_input c.args.b) c.in_ok-plan.plan c.push.new.self c.in_ok-plan.ensures (c.in_ok-push.ensures ∙ ap (λ (t : Planned). c.in_ok-plan.plan ++ t ∷ []) c.top_hat_step.ensures)
