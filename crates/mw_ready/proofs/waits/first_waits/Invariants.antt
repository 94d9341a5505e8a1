use Rattle.std.proofs.Common.{length}
use Rattle.mw_ready.proofs.Firsts.{CountsWaits}
use Rattle.mw_ready.proofs.waits.first_waits.Given as goal

abbrev pub invariant-loop-k : goal.invariant-loop-k
invariant-loop-k l = CountsWaits l.needs l.grid (length l.needs) l.k l.waits.items
