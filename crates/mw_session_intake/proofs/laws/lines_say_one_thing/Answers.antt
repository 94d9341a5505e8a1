use Rattle.std.proofs.Common.{sym}
use Rattle.mw_session_intake.proofs.Front.{says_of, says_only}
use Rattle.mw_session_intake.proofs.laws.lines_say_one_thing.Goals as goal

pub returns : goal.returns
returns c = λ line said. (λ s. says_only line said s, λ e. says_of line said (sym e))
