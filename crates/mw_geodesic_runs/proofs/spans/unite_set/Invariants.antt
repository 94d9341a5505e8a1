use Rattle.std.proofs.Common.{◌≡◌, ◌+◌, ◌≤◌, List, length}
use Rattle.std.specs.Prelude.{vec_capacity}
use Rattle.mw_pixel.specs.Images.{set_of}
use Rattle.mw_geodesic_runs.specs.declared.runs.Run.{Run}
use Rattle.mw_geodesic_runs.specs.Runs.{run_count, RunsBefore}
use Rattle.mw_geodesic_runs.specs.Rows.{AreHeldAbove}
use Rattle.mw_geodesic_runs.specs.Forests.{IsForest}
use Rattle.mw_geodesic_runs.proofs.UnitedRows.{UnitedAbove}
use Rattle.mw_geodesic_runs.proofs.spans.unite_set.Given as goal

abbrev pub invariant-loop-y : goal.invariant-loop-y
invariant-loop-y l = record {
  spans_room : vec_capacity l.spans ≡ run_count (set_of l.set);
  starts_room : l.set.height + 1 ≤ vec_capacity l.starts;
  upper_room : l.set.width ≤ vec_capacity l.upper;
  lower_room : l.set.width ≤ vec_capacity l.lower;
  forest : IsForest l.parent;
  many : length l.spans.items ≡ l.above + length l.upper.items;
  held : AreHeldAbove (set_of l.set) l.y l.spans.items l.starts.items;
  rows : (runs : List Run) → RunsBefore (set_of l.set) 0 l.set.height runs → UnitedAbove l.reach runs l.y l.above l.upper.items l.parent;
}
