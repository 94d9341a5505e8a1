use Rattle.mw_model_laws.proofs.RunStates.{reached}
use Rattle.mw_model_laws.proofs.machine_laws.entries_in_order.Goals as goal

pub returns : goal.returns
returns c = record {
  lengths = λ log m r. (reached log m r).lengths;
  small = λ log m r. (reached log m r).small;
  inputs = λ log m r. (reached log m r).inputs;
}
