use Rattle.mw_model_laws.proofs.RunExamples.{calls_run}
use Rattle.mw_model_laws.proofs.machine_examples.calls_make_runs.Goals as goal

pub returns : goal.returns
returns c = calls_run
