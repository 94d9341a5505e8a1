use Rattle.std.proofs.Common.{◌-◌, ◌≤◌, length}
use Rattle.mw_geodesic_labels.specs.Overwriting.{IsOverwritten}
use Rattle.mw_geodesic_labels.proofs.overwriting.write_blocks.Given as goal

abbrev pub invariant-forward : goal.invariant-forward
invariant-forward g l = record {
  from : l.start ≤ l.at;
  within : l.at ≤ length l.places;
  written : IsOverwritten l.start l.at l.value l.initial.places l.places;
}

abbrev pub decreases-forward : goal.decreases-forward
decreases-forward g l = length l.places - l.at
