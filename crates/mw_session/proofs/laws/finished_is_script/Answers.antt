use Rattle.mw_session_fetch.specs.mw_wire.Rooms.{LacksRoom}
use Rattle.mw_session.proofs.Stops.{finished_script}
use Rattle.mw_session.proofs.laws.finished_is_script.Goals as goal

pub returns : goal.returns
returns c = λ left bytes m n old new before after e f. finished_script (LacksRoom bytes) left bytes m n old new before after e f
