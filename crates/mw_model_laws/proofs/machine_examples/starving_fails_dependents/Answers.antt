use Rattle.std.proofs.Common.{refl}
use Rattle.mw_model.specs.Refusals.{ticket_of}
use Rattle.mw_model.specs.Machine.{killed}
use Rattle.mw_model_laws.proofs.RunExamples.{starving_run}
use Rattle.mw_model_laws.proofs.machine_examples.starving_fails_dependents.Goals as goal

pub returns : goal.returns
unfolding ticket_of killed
returns c = record { run = starving_run; outcomes = refl; first = refl; second = refl }
