use Rattle.std.proofs.Common.{[], ◌∷◌, sym, ◌∙◌}
use Rattle.mw_plan.specs.Seen.{planned}
use Rattle.mw_c_forms.proofs.FormPlans.{form_is, three_steps, two_steps}
use Rattle.mw_c_forms.proofs.forms.form_of.Goals as goal

pub returns-in-2-clause-means : goal.returns-in-2-clause-means
returns-in-2-clause-means c =
    let a = planned c.step-in-2.result.now in
    let b = planned c.step-in-2-2.result.now in
    (form_is c.args.plan.now (a ∷ b ∷ []) c.of_two.result (two_steps c.args.plan.now a b (sym c.len.ensures ∙ c.in-2.is) c.step-in-2.ensures c.step-in-2-2.ensures) c.of_two.ensures.some).means

pub returns-in-3-clause-means : goal.returns-in-3-clause-means
returns-in-3-clause-means c =
    let a = planned c.step-in-3.result.now in
    let b = planned c.step-in-3-2.result.now in
    let d = planned c.step-in-3-3.result.now in
    (form_is c.args.plan.now (a ∷ b ∷ d ∷ []) c.of_three.result (three_steps c.args.plan.now a b d (sym c.len.ensures ∙ c.in-3.is) c.step-in-3.ensures c.step-in-3-2.ensures c.step-in-3-3.ensures) c.of_three.ensures.some).means
