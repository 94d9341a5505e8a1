use Rattle.std.proofs.Common.{◌+◌, ◌-◌, ◌*◌, get_or}
use Rattle.mw_grid.specs.Counts.{bit, in_range}
use Rattle.mw_ready.specs.Counters.{Raises}
use Rattle.mw_ready.proofs.spans.raise_row.Given as goal

abbrev pub invariant-loop-i : goal.invariant-loop-i
invariant-loop-i l = Raises (λ u. bit (in_range l.first (l.first + l.i) u) * (l.times * get_or l.across (u - l.first) 0)) l.initial.counts l.counts
