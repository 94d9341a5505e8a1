use Rattle.std.proofs.Common.{◌-◌, ◌<◌, ◌≤◌}
use Rattle.mw_line.proofs.in_cache.power_within.Given as goal

abbrev pub invariant-doubling : goal.invariant-doubling
invariant-doubling l = record {
  some : 0 < l.taken;
  within : l.taken ≤ l.k;
}

abbrev pub decreases-doubling : goal.decreases-doubling
decreases-doubling l = l.k - l.taken
