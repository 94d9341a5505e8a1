use Rattle.mw_model_laws.proofs.RunStates.{reached}
use Rattle.mw_model_laws.proofs.machine_laws.outcomes_follow_inputs.Goals as goal

pub returns : goal.returns
returns c = record {
  pending = λ log m r. (reached log m r).pending;
  done = λ log m r. (reached log m r).done;
  failed = λ log m r. (reached log m r).failed;
}
