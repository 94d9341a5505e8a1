use Rattle.std.proofs.Common.{◌≡◌, ℕ, ◌+◌, ◌-◌, ◌<◌, ◌≤◌, length, get_or}
use Rattle.mw_rank_medians.specs.Numbered.{IsNthLevel}
use Rattle.mw_rank_lent.specs.Sorted.{AreSorted, lanes_of_sorted}
use Rattle.mw_rank_medians.specs.Columns.{column_below, block_below}
use Rattle.mw_rank_lent.proofs.nine.put_first.Given as goal

abbrev pub invariant-by_vector : goal.invariant-by_vector
invariant-by_vector g l = record {
  within : l.done ≤ length l.out;
  size : length l.out ≡ length l.initial.out;
  columns : (i : ℕ) → i < g.P.Broad.BREADTH → AreSorted (column_below g.P.Pixel.level g.P.Pixel.TOP l.sheet.samples.now l.sheet.from l.sheet.stride 3 (l.done + i)) (lanes_of_sorted g.P.Broad.wide_lane l.here i);
  medians : (i : ℕ) → i < l.done → IsNthLevel (block_below g.P.Pixel.level g.P.Pixel.TOP l.sheet.samples.now l.sheet.from l.sheet.stride 3 i) 5 (g.P.Pixel.level (get_or l.out i g.P.Pixel.TOP));
}

abbrev pub decreases-by_vector : goal.decreases-by_vector
decreases-by_vector g l = length l.out - l.done
