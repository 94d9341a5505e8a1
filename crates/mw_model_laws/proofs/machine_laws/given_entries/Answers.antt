use Rattle.std.proofs.Common.{sym}
use Rattle.mw_model_laws.proofs.RunStates.{reached}
use Rattle.mw_model_laws.proofs.RunValues.{given_value}
use Rattle.mw_model_laws.proofs.machine_laws.given_entries.Goals as goal

pub returns : goal.returns
returns c = record {
  done = λ log m r. (reached log m r).given;
  elements = λ log m r. (reached log m r).elements;
  read = λ log m t r h e. sym (given_value m t (reached log m r) h ((reached log m r).elements t h e));
  bare = λ log m r. (reached log m r).bare;
}
