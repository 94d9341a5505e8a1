use Rattle.std.proofs.Common.{refl}
use Rattle.mw_model.specs.Refusals.{ticket_of}
use Rattle.mw_model_laws.proofs.RunExamples.{erosion_run}
use Rattle.mw_model_laws.proofs.machine_examples.erosion_is_done.Goals as goal

pub returns : goal.returns
unfolding ticket_of
returns c = record { run = erosion_run; replies = refl; value = refl }
