use Rattle.mw_session_laws.proofs.Finishing.{works_is_run}
use Rattle.mw_session_laws.proofs.laws.work_is_lawful.Goals as goal

pub returns : goal.returns
returns c = λ kills m n s w. works_is_run kills m n s w
