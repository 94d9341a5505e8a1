use Rattle.mw_model_laws.proofs.RunStates.{reached}
use Rattle.mw_model_laws.proofs.RunValues.{given_value, command_value}
use Rattle.mw_model_laws.proofs.machine_laws.values_by_operations.Goals as goal

pub returns : goal.returns
returns c = record {
  given = λ log m t r h e. given_value m t (reached log m r) h e;
  run = λ log m t o r h e. command_value m t o (reached log m r) h e;
}
