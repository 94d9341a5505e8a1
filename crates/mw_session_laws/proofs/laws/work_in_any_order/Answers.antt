use Rattle.mw_session_laws.proofs.Working.{works_any_order}
use Rattle.mw_session_laws.proofs.laws.work_in_any_order.Goals as goal

pub returns : goal.returns
returns c = λ items m n s w r none. works_any_order items m n s w r none
