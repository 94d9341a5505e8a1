use Rattle.mw_model_laws.proofs.RunStates.{reached}
use Rattle.mw_model_laws.proofs.RunGrowth.{settled_stays, done_stays}
use Rattle.mw_model_laws.proofs.machine_laws.outcomes_change_once.Goals as goal

pub returns : goal.returns
returns c = record {
  settled = λ log more m n t r s. settled_stays more m n t (reached log m r) s;
  done = λ log more m n t r s. done_stays more m n t (reached log m r) s;
}
