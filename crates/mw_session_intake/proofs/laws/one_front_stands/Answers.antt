use Rattle.std.proofs.Common.{sym}
use Rattle.mw_session_intake.proofs.Front.{is_front, front_is}
use Rattle.mw_session_intake.proofs.laws.one_front_stands.Goals as goal

pub returns : goal.returns
returns c = λ bytes f. (λ h. sym (front_is bytes f h), λ e. is_front bytes f (sym e))
