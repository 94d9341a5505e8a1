use Rattle.std.proofs.Common.{sym}
use Rattle.mw_gran.proofs.plans.plan_of.Goals as goal

pub plan_of_legal_gran-requires : goal.plan_of_legal_gran-requires
plan_of_legal_gran-requires c = record { legal = sym c.in_ok-shape_of.ensures.fault }
