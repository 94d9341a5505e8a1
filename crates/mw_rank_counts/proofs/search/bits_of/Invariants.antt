use Rattle.std.proofs.Common.{◌-◌, ◌≤◌}
use Rattle.mw_rank_counts.proofs.search.bits_of.Given as goal

abbrev pub invariant-loop-bits : goal.invariant-loop-bits
invariant-loop-bits g l = l.bits ≤ g.P.Counted.BITS

abbrev pub decreases-loop-bits : goal.decreases-loop-bits
decreases-loop-bits g l = g.P.Counted.BITS - l.bits
