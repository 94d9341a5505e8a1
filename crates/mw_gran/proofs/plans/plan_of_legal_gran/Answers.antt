use Rattle.std.proofs.Common.{List, subst}
use Rattle.mw_model.specs.declared.offsets.Offset.{Offset}
use Rattle.mw_plan.specs.Asked.{offsets_of_input}
use Rattle.mw_gran.specs.Sizes.{MakesGran}
use Rattle.mw_gran.proofs.Meaning.{IsAllowed-gran, gran_plan, few_steps, few_steps_by_box, short_plan}
use Rattle.mw_gran.proofs.plans.plan_of_legal_gran.Goals as goal

pub element-requires : goal.element-requires
element-requires c = (IsAllowed-gran c.args.op.now c.args.a c.args.b c.args.c c.requires.legal).element

pub steps-requires : goal.steps-requires
steps-requires c = (IsAllowed-gran c.args.op.now c.args.a c.args.b c.args.c c.requires.legal).levels

pub returns-clause-plan : goal.returns-clause-plan
returns-clause-plan c =
    gran_plan c.args.op.now c.args.a c.args.b c.args.c c.in_ok-plan.plan c.requires.legal
    (subst (λ (d : List Offset). MakesGran c.args.op.now d c.in_ok-plan.plan) c.element.ensures c.in_ok-plan.ensures)

pub returns-clause-steps : goal.returns-clause-steps
returns-clause-steps c =
    few_steps c.args.op.now (offsets_of_input c.args.b) c.in_ok-plan.plan (subst (λ (d : List Offset). MakesGran c.args.op.now d c.in_ok-plan.plan) c.element.ensures c.in_ok-plan.ensures)

pub returns-clause-boxed : goal.returns-clause-boxed
returns-clause-boxed c =
    few_steps_by_box c.args.op.now (offsets_of_input c.args.b) c.in_ok-plan.plan (subst (λ (d : List Offset). MakesGran c.args.op.now d c.in_ok-plan.plan) c.element.ensures c.in_ok-plan.ensures)

pub returns-clause-short : goal.returns-clause-short
returns-clause-short c =
    short_plan c.args.op.now (offsets_of_input c.args.b) c.in_ok-plan.plan (IsAllowed-gran c.args.op.now c.args.a c.args.b c.args.c c.requires.legal).levels
    (subst (λ (d : List Offset). MakesGran c.args.op.now d c.in_ok-plan.plan) c.element.ensures c.in_ok-plan.ensures)
