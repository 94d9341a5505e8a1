use Rattle.mw_model_laws.proofs.RunStates.{reached}
use Rattle.mw_model_laws.proofs.RunTables.{names_differ}
use Rattle.mw_model_laws.proofs.machine_laws.names_are_distinct.Goals as goal

pub returns : goal.returns
returns c = record {
  lead = λ log m r. (reached log m r).names;
  differ = λ log m t u r p q e. names_differ m.table.names (reached log m r).names t u p q e;
}
