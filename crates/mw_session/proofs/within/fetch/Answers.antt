use Rattle.mw_session.proofs.Covering.{asks-keep, keeps-then, keeps-fetch}
use Rattle.mw_session.proofs.within.fetch.Goals as goal

pub returns-then-lacks_fetch_room-clause-keeps : goal.returns-then-lacks_fetch_room-clause-keeps
returns-then-lacks_fetch_room-clause-keeps c = asks-keep _ _ _ c.lacks_fetch_room.ensures

pub returns-clause-keeps : goal.returns-clause-keeps
returns-clause-keeps c =
    keeps-then _ _ _ _ _ (asks-keep _ _ _ c.lacks_fetch_room.ensures)
    (rw c.count_item.ensures (keeps-fetch c.fetch-fetched.result _ c.args.core.now c.fetch-fetched.new.self c.args.name c.fetch-fetched.ensures.err c.fetch-fetched.ensures.served c.fetch-fetched.ensures.side))
