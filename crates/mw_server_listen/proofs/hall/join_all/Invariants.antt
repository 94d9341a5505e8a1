use Rattle.std.proofs.Common.{All}
use Rattle.mw_server_listen.proofs.hall.join_all.Given as goal

-- the passes so far were left by sessions
abbrev pub invariant-loop-guest : goal.invariant-loop-guest
invariant-loop-guest g l = All g.S.Session.left l.passes.items
