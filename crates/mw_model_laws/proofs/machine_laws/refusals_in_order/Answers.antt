use Rattle.mw_model_laws.proofs.RunTables.{first_holds, no_case_holds, taken_first, full_next, unknown_first, run_then, input_told}
use Rattle.mw_model_laws.proofs.machine_laws.refusals_in_order.Goals as goal

pub returns : goal.returns
returns c = record {
  holds = first_holds;
  none = no_case_holds;
  taken = taken_first;
  full = full_next;
  unknown = unknown_first;
  run = run_then;
  input = input_told;
}
