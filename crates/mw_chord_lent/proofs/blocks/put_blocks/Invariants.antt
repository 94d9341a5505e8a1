use Rattle.std.proofs.Common.{◌≡◌, ℕ, ◌+◌, ◌-◌, ◌*◌, ◌<◌, ◌≤◌, List, length, get_or}
use Rattle.mw_model.specs.Windows.{seen_at}
use Rattle.mw_offset.specs.mw_element_runs.declared.runs.Run.{Run}
use Rattle.mw_chord_lent.specs.Works.{IsSeen, IsBlockWork}
use Rattle.mw_chord_lent.proofs.blocks.put_blocks.Given as goal

abbrev pub invariant-by_rows : goal.invariant-by_rows
invariant-by_rows g l = record {
  within : l.done ≤ l.height;
  lists : length l.lists ≡ length l.initial.lists;
  size : length l.out ≡ length l.initial.out;
  made : (runs : List Run) → IsBlockWork g.P.Laned.WIDTH runs l.work → (x y : ℕ) → x < l.work.tile.width → y < l.done
      → IsSeen g.E.Extremum.merge l.neutral (seen_at l.lent) runs l.work.tile x y (get_or l.out (y * l.work.tile.width + x) l.neutral);
}

abbrev pub decreases-by_rows : goal.decreases-by_rows
decreases-by_rows g l = l.height - l.done
