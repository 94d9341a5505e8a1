use Rattle.mw_session.proofs.Covering.{asks-keep, keeps-then, keeps-release}
use Rattle.mw_session.proofs.within.release.Goals as goal

pub returns-then-lacks_release_room-clause-keeps : goal.returns-then-lacks_release_room-clause-keeps
returns-then-lacks_release_room-clause-keeps c = asks-keep _ _ _ c.lacks_release_room.ensures.asks

pub returns-clause-keeps : goal.returns-clause-keeps
returns-clause-keeps c =
    keeps-then _ _ _ _ _ (asks-keep _ _ _ c.lacks_release_room.ensures.asks)
    (rw c.count_item.ensures (keeps-release c.release-reply.result _ c.args.core.now c.release-reply.new.self c.args.name c.release-reply.ensures.err c.release-reply.ensures.served c.release-reply.ensures.side))
