use Rattle.std.proofs.Common.{refl}
use Rattle.mw_model_laws.proofs.RunStates.{reached}
use Rattle.mw_model_laws.proofs.RunGrowth.{values_by, values_killed, value_stays}
use Rattle.mw_model_laws.proofs.machine_laws.values_stay.Goals as goal

pub returns : goal.returns
returns c = record {
  by = values_by;
  kill = values_killed;
  settle = λ m t o. refl;
  later = λ log more m n t r s. value_stays more m n t (reached log m r) s;
}
