use Rattle.std.proofs.Common.{sym}
use Rattle.mw_plan.proofs.flat.plan_of.Goals as goal

pub plan_of_legal-requires : goal.plan_of_legal-requires
plan_of_legal-requires c = record { legal = sym c.in_ok-shape_of.ensures.fault }
