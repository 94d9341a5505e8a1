use Rattle.mw_pool_session.proofs.Sessions.{halted-wrote-front}
use Rattle.mw_pool_session.proofs.laws.stopped_is_served.Goals as goal

pub returns : goal.returns
returns c = λ left bytes old new before after f s. halted-wrote-front left bytes old new before after f s
