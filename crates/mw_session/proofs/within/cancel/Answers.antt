use Rattle.mw_session.proofs.Covering.{asks-keep, keeps-then, keeps-cancel}
use Rattle.mw_session.proofs.within.cancel.Goals as goal

pub returns-then-lacks_cancel_room-clause-keeps : goal.returns-then-lacks_cancel_room-clause-keeps
returns-then-lacks_cancel_room-clause-keeps c = asks-keep _ _ _ c.lacks_cancel_room.ensures.asks

pub returns-clause-keeps : goal.returns-clause-keeps
returns-clause-keeps c =
    keeps-then _ _ _ _ _ (asks-keep _ _ _ c.lacks_cancel_room.ensures.asks)
    (rw c.count_item.ensures (keeps-cancel c.cancel-reply.result _ c.args.core.now c.cancel-reply.new.self c.args.name c.cancel-reply.ensures.err c.cancel-reply.ensures.served c.cancel-reply.ensures.side))
