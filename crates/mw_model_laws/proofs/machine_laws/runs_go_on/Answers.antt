use Rattle.mw_model_laws.proofs.RunStates.{reached}
use Rattle.mw_model_laws.proofs.RunWaiting.{one_can_finish}
use Rattle.mw_model_laws.proofs.machine_laws.runs_go_on.Goals as goal

pub returns : goal.returns
returns c = λ log m t r h e. one_can_finish m t (reached log m r) h e
