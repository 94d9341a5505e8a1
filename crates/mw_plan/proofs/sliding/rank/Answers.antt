use Rattle.std.proofs.Common.{List, ap, sym, subst, ◌∙◌}
use Rattle.mw_model.specs.declared.offsets.Offset.{Offset}
use Rattle.mw_model.specs.Elements.{Figure}
use Rattle.mw_model.specs.Flat.{rank}
use Rattle.mw_model.specs.PlanSteps as step
use Rattle.mw_plan.specs.Asked.{offsets_of_input}
use Rattle.mw_plan.specs.Steps.{ActsAs}
use Rattle.mw_plan.proofs.Acting.{acts_by_rank}
use Rattle.mw_plan.proofs.sliding.rank.Goals as goal

pub returns-clause-acts : goal.returns-clause-acts
returns-clause-acts c =
    let e = offsets_of_input c.args.input in
    subst (λ (d : List Offset). ActsAs (step.Rank d c.args.k) (rank e c.args.k)) (sym (ap (λ (f : Figure). f.offsets) c.in_ok-try_clone.ensures ∙ c.element.ensures)) (acts_by_rank e c.args.k)
