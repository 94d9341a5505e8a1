use Rattle.mw_plan.proofs.Fitting.{elements_there, flat_plan}
use Rattle.mw_plan.proofs.flat.plan_of_legal.Goals as goal

pub steps-requires : goal.steps-requires
steps-requires c = elements_there c.args.op.now c.args.a c.args.b c.args.c c.requires.legal

pub returns-clause-plan : goal.returns-clause-plan
returns-clause-plan c = flat_plan c.args.op.now c.args.a c.args.b c.args.c c.in_ok-plan.plan c.requires.legal c.in_ok-plan.ensures.makes
