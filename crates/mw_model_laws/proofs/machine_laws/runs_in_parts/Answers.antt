use Rattle.mw_model_laws.proofs.RunReplay.{run_join, run_split}
use Rattle.mw_model_laws.proofs.machine_laws.runs_in_parts.Goals as goal

pub returns : goal.returns
returns c = record { join = run_join; split = run_split }
