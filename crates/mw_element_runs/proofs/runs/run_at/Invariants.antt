use Rattle.std.proofs.Common.{◌≡◌, ◌+◌, ◌-◌, ◌<◌, ◌≤◌, length, take, drop}
use Rattle.mw_element_runs.specs.Runs.{run_offsets}
use Rattle.mw_element_runs.proofs.runs.run_at.Given as goal

abbrev pub invariant-many : goal.invariant-many
invariant-many l = record {
  some : 0 < l.count;
  few : l.count ≤ 65536;
  room : l.from + l.count ≤ length l.offsets;
  same : run_offsets (record { dx = l.first.dx; dy = l.first.dy; count = l.count }) ≡ take l.count (drop l.from l.offsets);
}

abbrev pub decreases-many : goal.decreases-many
decreases-many l = 65536 - l.count

abbrev pub invariant-on : goal.invariant-on
invariant-on l = record {
  some : 0 < l.count;
  few : l.count ≤ 65536;
  room : l.from + l.count ≤ length l.offsets;
  same : run_offsets (record { dx = l.first.dx; dy = l.first.dy; count = l.count }) ≡ take l.count (drop l.from l.offsets);
}

abbrev pub decreases-on : goal.decreases-on
decreases-on l = 65536 - l.count
