use Rattle.std.proofs.Common.{◌≡◌, ℕ, ◌+◌, ◌-◌, ◌<◌, ◌≤◌, length, get_or}
use Rattle.mw_rank_medians.specs.Numbered.{lanes_of_five, lanes_of_ten, AreFive, AreTen, IsNthLevel}
use Rattle.mw_rank_medians.specs.Columns.{column_below, block_below}
use Rattle.mw_rank_medians.proofs.rows.first_of_25.Given as goal

abbrev pub invariant-by_vector : goal.invariant-by_vector
invariant-by_vector g l = record {
  within : l.done ≤ length l.out;
  size : length l.out ≡ length l.initial.out;
  columns : (i : ℕ) → i < g.P.Vectored.WIDTH → AreFive (column_below g.P.Pixel.level g.P.Pixel.TOP l.sheet.samples.now l.sheet.from l.sheet.stride 5 (l.done + i)) (lanes_of_five g.P.Vectored.lane l.here i);
  columns_next : (i : ℕ) → i < g.P.Vectored.WIDTH → AreFive (column_below g.P.Pixel.level g.P.Pixel.TOP l.sheet.samples.now l.sheet.from l.sheet.stride 5 (l.done + g.P.Vectored.WIDTH + i)) (lanes_of_five g.P.Vectored.lane l.next i);
  pairs : (i : ℕ) → i < g.P.Vectored.WIDTH → AreTen (λ t. column_below g.P.Pixel.level g.P.Pixel.TOP l.sheet.samples.now l.sheet.from l.sheet.stride 5 (l.done + i) t + column_below g.P.Pixel.level g.P.Pixel.TOP l.sheet.samples.now l.sheet.from l.sheet.stride 5 (l.done + i + 1) t) (lanes_of_ten g.P.Vectored.lane l.left i);
  medians : (i : ℕ) → i < l.done → IsNthLevel (block_below g.P.Pixel.level g.P.Pixel.TOP l.sheet.samples.now l.sheet.from l.sheet.stride 5 i) 13 (g.P.Pixel.level (get_or l.out i g.P.Pixel.TOP));
}

abbrev pub decreases-by_vector : goal.decreases-by_vector
decreases-by_vector g l = length l.out - l.done
