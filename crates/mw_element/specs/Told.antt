-- What an element knows of its offsets from the moment when it is made.
use Rattle.std.specs.Prelude.{◌≡◌, ◌<◌, pos, negsuc, neg_ℤ, ◌+ℤ◌, ◌-ℤ◌, ◌≤ℤ◌, Bool, List, map, flat_map, reverse, Option, IfSome, IfNone}
use Rattle.std.specs.List.{AllByRecursion}
use Rattle.mw_model.specs.declared.offsets.Offset.{Offset}
use Rattle.mw_model.specs.declared.offsets.OffsetBox.{OffsetBox}
use Rattle.mw_model.specs.declared.offsets.Reach.{Reach}
use Rattle.mw_element_runs.specs.declared.runs.Run.{Run}
use Rattle.mw_element_runs.specs.Runs.{run_offsets, AreLongest, AreFewest, IsRun}
use Rattle.mw_element.specs.Figures.{FillsBox, by_rows}

-- the box that the offsets exactly are, if there is one
pub record TellsBox (found : Option OffsetBox) (offsets : List Offset) : Type 0 where
  pub some : IfSome found (λ box. FillsBox box offsets)
  pub none : IfNone found ((box : OffsetBox) → FillsBox box offsets → ⊥)

-- the runs are the offsets by rows, as long as they can be, and none are fewer
pub record TellsRuns (is_turned : Bool) (runs : List Run) (offsets : List Offset) : Type 0 where
  pub whole : flat_map run_offsets runs ≡ by_rows is_turned offsets
  pub each : AllByRecursion IsRun runs
  pub longest : AreLongest runs
  pub fewest : AreFewest offsets runs

-- ---- turned round

-- the reach of the offsets turned round
abbrev pub turned_reach : Reach → Reach
turned_reach r = record { left = r.right; right = r.left; up = r.down; down = r.up }

-- the run turned round: its last offset is the first
abbrev pub turned_run : Run → Run
turned_run r = record { dx = pos 1 -ℤ r.dx -ℤ pos r.count; dy = neg_ℤ r.dy; count = r.count }

-- the runs turned round, from the last to the first
abbrev pub turned_runs : List Run → List Run
turned_runs runs = reverse (map turned_run runs)

-- the offsets of the run stay within the sides of an element
pub record IsNearRun (r : Run) : Type 0 where
  pub some : 0 < r.count
  pub left : negsuc 253 ≤ℤ r.dx
  pub right : (r.dx +ℤ pos r.count) ≤ℤ pos 255
  pub top : negsuc 253 ≤ℤ r.dy
  pub bottom : r.dy ≤ℤ pos 254
