use Rattle.mw_session.proofs.Covering.{asks-keep, keeps-load}
use Rattle.mw_session.proofs.within.load.Goals as goal

pub returns-then-lacks_log_room-clause-keeps : goal.returns-then-lacks_log_room-clause-keeps
returns-then-lacks_log_room-clause-keeps c = λ left. asks-keep _ _ _ c.lacks_log_room.ensures.asks

pub returns-clause-keeps : goal.returns-clause-keeps
returns-clause-keeps c = λ left.
    rw c.count.ensures (keeps-load c.load-reply.result _ _ c.args.core.now c.load-reply.new.self c.args.name c.args.image _ _ c.image_bytes-counted.ensures c.requires c.load-reply.ensures.err c.load-reply.ensures.served c.load-reply.ensures.side c.lacks_log_room.ensures.asks left)
