use Rattle.mw_model_laws.proofs.RunStates.{reached}
use Rattle.mw_model_laws.proofs.RunGrowth.{step_grows, run_grows}
use Rattle.mw_model_laws.proofs.machine_laws.entries_stay.Goals as goal

pub returns : goal.returns
returns c = record {
  step = λ log m i n r s. step_grows m i n (reached log m r) s;
  run = λ log more m n r s. run_grows more m n (reached log m r) s;
}
