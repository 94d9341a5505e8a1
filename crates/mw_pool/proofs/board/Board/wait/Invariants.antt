use Rattle.std.proofs.Common.{◌≡◌}
use Rattle.mw_pool.proofs.board.Board.wait.Given as goal

abbrev pub invariant-loop : goal.invariant-loop
invariant-loop g l = l.pass ≡ l.initial.pass
