use Rattle.mw_plan.proofs.WindowsFit.{made_fits}
use Rattle.mw_plan.proofs.laws.tasks_of_plans_fit.Goals as goal

pub returns : goal.returns
returns c = made_fits
