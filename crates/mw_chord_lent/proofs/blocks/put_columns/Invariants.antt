use Rattle.std.proofs.Common.{◌≡◌, ℕ, ◌+◌, ◌-◌, ◌*◌, ◌<◌, ◌≤◌, List, length, get_or}
use Rattle.mw_model.specs.Windows.{seen_at}
use Rattle.mw_offset.specs.mw_element_runs.declared.runs.Run.{Run}
use Rattle.mw_line_lent.specs.Boxes.{IsPutInRows}
use Rattle.mw_chord_lent.specs.Works.{IsSeen, IsBlockWork}
use Rattle.mw_chord_lent.proofs.blocks.put_columns.Given as goal

abbrev pub invariant-by_columns : goal.invariant-by_columns
invariant-by_columns g l = record {
  within : l.done ≤ l.width;
  lists : length l.lists ≡ length l.initial.lists;
  put : IsPutInRows l.work.plan.high (l.y * l.width) l.width l.width l.initial.out l.out;
  made : (runs : List Run) → IsBlockWork g.P.Laned.WIDTH runs l.work → (r x : ℕ) → r < l.work.plan.high → x < l.done
      → IsSeen g.E.Extremum.merge l.neutral (seen_at l.lent) runs l.work.tile x (l.y + r) (get_or l.out (l.y * l.width + r * l.width + x) l.neutral);
}

abbrev pub decreases-by_columns : goal.decreases-by_columns
decreases-by_columns g l = l.width - l.done
