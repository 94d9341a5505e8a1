use Rattle.mw_model_laws.proofs.RunReplay.{refusal_told, refusal_tells, refused_leaves, status_leaves, fetch_leaves}
use Rattle.mw_model_laws.proofs.machine_laws.refused_calls.Goals as goal

pub returns : goal.returns
returns c = record {
  told = λ m c d. (refusal_told m c d, refusal_tells m c d);
  unchanged = refused_leaves;
  status = status_leaves;
  fetch = fetch_leaves;
}
