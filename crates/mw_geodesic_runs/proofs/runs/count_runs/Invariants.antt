use Rattle.std.proofs.Common.{◌≡◌, ◌*◌, ◌≤◌}
use Rattle.mw_pixel.specs.Images.{set_of}
use Rattle.mw_geodesic_runs.specs.Runs.{tally, begun}
use Rattle.mw_geodesic_runs.proofs.runs.count_runs.Given as goal

abbrev pub invariant-loop-y : goal.invariant-loop-y
invariant-loop-y l = record {
  count : l.count ≡ tally (λ v. begun (set_of l.set) v l.set.width) l.y;
  few : l.count ≤ l.y * 65600;
}
