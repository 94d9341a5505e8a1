use Rattle.mw_model_laws.proofs.RunStates.{reached}
use Rattle.mw_model_laws.proofs.RunReach.{kill_reaches}
use Rattle.mw_model_laws.proofs.machine_laws.kill_reaches_dependents.Goals as goal

pub returns : goal.returns
returns c = λ log m t cause u r can dead h n e. kill_reaches m t cause u (reached log m r) can dead h n e
