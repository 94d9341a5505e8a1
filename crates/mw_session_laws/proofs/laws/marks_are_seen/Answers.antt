use Rattle.mw_session_laws.proofs.Readings.{marks_seen}
use Rattle.mw_session_laws.proofs.laws.marks_are_seen.Goals as goal

pub returns : goal.returns
returns c = λ ts m n x turns none other. marks_seen ts m n x turns none other
