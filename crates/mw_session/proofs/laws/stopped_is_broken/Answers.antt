use Rattle.mw_session_fetch.specs.mw_wire.Rooms.{LacksRoom}
use Rattle.mw_session.proofs.Stops.{stopped_broken}
use Rattle.mw_session.proofs.laws.stopped_is_broken.Goals as goal

pub returns : goal.returns
returns c = λ left bytes m n old new before after f s. stopped_broken (LacksRoom bytes) left bytes m n old new before after f s
