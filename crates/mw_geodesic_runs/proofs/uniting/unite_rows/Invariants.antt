use Rattle.std.proofs.Common.{◌+◌, ◌-◌, ◌≤◌, ℕ, List, length}
use Rattle.mw_geodesic_runs.specs.declared.runs.Run.{Run}
use Rattle.mw_geodesic_runs.specs.Forests.{IsForest}
use Rattle.mw_geodesic_runs.specs.Rows.{AreTwoRows}
use Rattle.mw_geodesic_runs.specs.Touching.{AreUnited}
use Rattle.mw_geodesic_runs.proofs.uniting.unite_rows.Given as goal

abbrev pub invariant-along : goal.invariant-along
invariant-along l = record {
  forest : IsForest l.parent;
  in_upper : l.i ≤ length l.upper;
  in_lower : l.j ≤ length l.lower;
  united : (runs : List Run) (y : ℕ) → AreTwoRows runs y l.above l.upper l.lower → AreUnited l.reach runs 0 (l.above + length l.upper) l.initial.parent → AreUnited l.reach runs (l.above + l.i) (l.above + length l.upper + l.j) l.parent;
}

abbrev pub decreases-along : goal.decreases-along
decreases-along l = length l.upper - l.i + (length l.lower - l.j)
