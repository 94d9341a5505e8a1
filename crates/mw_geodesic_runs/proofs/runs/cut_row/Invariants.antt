use Rattle.std.proofs.Common.{◌≡◌, ◌-◌, ◌*◌, ◌/◌, ◌++◌, List, length}
use Rattle.std.specs.Prelude.{vec_capacity}
use Rattle.mw_pixel.specs.Images.{set_of}
use Rattle.mw_geodesic_runs.specs.declared.runs.Run.{Run}
use Rattle.mw_geodesic_runs.specs.Runs.{RunsBefore}
use Rattle.mw_geodesic_runs.specs.Changes.{AreChangesBehind}
use Rattle.mw_geodesic_runs.proofs.Cuts.{InRow}
use Rattle.mw_geodesic_runs.proofs.runs.cut_row.Given as goal

abbrev pub invariant-cuts : goal.invariant-cuts
invariant-cuts l = record {
  cutting : (above : List Run) → RunsBefore (set_of l.set) 0 l.y (above ++ l.initial.runs.items) → RunsBefore (set_of l.set) l.at l.y (above ++ l.runs.items);
  row : InRow (set_of l.set) l.words l.at l.y (length l.initial.runs.items) (length l.runs.items);
  room : vec_capacity l.runs ≡ vec_capacity l.initial.runs;
  left : AreChangesBehind l.words l.at (l.at / 64) l.left;
}

abbrev pub decreases-cuts : goal.decreases-cuts
decreases-cuts l = 64 * length l.words - l.at
