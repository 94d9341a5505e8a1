use Rattle.mw_session.proofs.Covering.{asks-keep, keeps-element}
use Rattle.mw_session.proofs.within.element.Goals as goal

pub returns-then-lacks_log_room-clause-keeps : goal.returns-then-lacks_log_room-clause-keeps
returns-then-lacks_log_room-clause-keeps c = λ left. asks-keep _ _ _ c.lacks_log_room.ensures.asks

pub returns-clause-keeps : goal.returns-clause-keeps
returns-clause-keeps c = λ left.
    rw c.count.ensures (keeps-element c.element-reply.result _ _ c.args.core.now c.element-reply.new.self c.args.name c.args.element _ _ c.element_bytes-counted.ensures c.element-reply.ensures.err c.element-reply.ensures.served c.element-reply.ensures.side c.lacks_log_room.ensures.asks left)
