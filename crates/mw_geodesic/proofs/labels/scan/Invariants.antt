use Rattle.std.proofs.Common.{◌≤◌, ◌+◌, ◌*◌}
use Rattle.mw_geodesic.proofs.Markings.{Scanned}
use Rattle.mw_geodesic.proofs.labels.scan.Given as goal

abbrev pub invariant-loop-x : goal.invariant-loop-x
invariant-loop-x l = record {
  scanned : Scanned l.element l.set l.count l.labels (l.y * l.set.width + l.x);
  few : l.count ≤ l.y * l.width + l.x;
}

abbrev pub invariant-loop-y : goal.invariant-loop-y
invariant-loop-y l = record {
  scanned : Scanned l.element l.set l.count l.labels (l.y * l.set.width + 0);
  few : l.count ≤ l.y * l.width;
}
