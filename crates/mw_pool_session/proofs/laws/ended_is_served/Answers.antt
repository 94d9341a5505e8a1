use Rattle.mw_pool_session.proofs.Sessions.{came-wrote-all}
use Rattle.mw_pool_session.proofs.laws.ended_is_served.Goals as goal

pub returns : goal.returns
returns c = λ left bytes old new before after e f. came-wrote-all left bytes old new before after e f
