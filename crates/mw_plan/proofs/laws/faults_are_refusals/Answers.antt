use Rattle.mw_plan.proofs.Refused.{run_refused, shape_same}
use Rattle.mw_plan.proofs.laws.faults_are_refusals.Goals as goal

pub returns : goal.returns
returns c = record { refusal = run_refused; shape = shape_same }
