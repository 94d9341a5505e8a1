use Rattle.mw_session_intake.proofs.Front.{Begins_prefix}
use Rattle.mw_session_intake.proofs.laws.one_reading.Goals as goal

pub returns : goal.returns
returns c = λ xs rest end rs qs b d h. Begins_prefix rs qs xs rest end b d h
