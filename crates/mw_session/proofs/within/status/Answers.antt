use Rattle.mw_session.proofs.Covering.{asks-keep, keeps-then, keeps-status}
use Rattle.mw_session.proofs.within.status.Goals as goal

pub returns-then-lacks_log_room-clause-keeps : goal.returns-then-lacks_log_room-clause-keeps
returns-then-lacks_log_room-clause-keeps c = asks-keep _ _ _ c.lacks_log_room.ensures.asks

pub returns-clause-keeps : goal.returns-clause-keeps
returns-clause-keeps c =
    keeps-then _ _ _ _ _ (asks-keep _ _ _ c.lacks_log_room.ensures.asks)
    (rw c.count_item.ensures (keeps-status c.status-reply.result _ c.args.core.now c.status-reply.new.self c.args.name c.status-reply.ensures.err c.status-reply.ensures.served c.status-reply.ensures.side))
