use Rattle.std.proofs.Common.{refl}
use Rattle.mw_model.specs.Refusals.{ticket_of}
use Rattle.mw_model_laws.proofs.machine_examples.release_lets_go.Goals as goal

pub returns : goal.returns
unfolding ticket_of
returns c = refl
