use Rattle.std.proofs.Common.{◌≡◌, ℕ, ◌-◌, ◌<◌, ◌≤◌, length, get_or}
use Rattle.mw_rank_medians.specs.Numbered.{IsNthLevel}
use Rattle.mw_rank_medians.specs.Columns.{block_below}
use Rattle.mw_rank_lent.proofs.nine.put_nine.Given as goal

abbrev pub invariant-by_vector : goal.invariant-by_vector
invariant-by_vector g l = record {
  within : l.done ≤ length l.out;
  size : length l.out ≡ length l.initial.out;
  medians : (i : ℕ) → i < l.done → IsNthLevel (block_below g.P.Pixel.level g.P.Pixel.TOP l.sheet.samples.now l.sheet.from l.sheet.stride 3 i) 5 (g.P.Pixel.level (get_or l.out i g.P.Pixel.TOP));
}

abbrev pub decreases-by_vector : goal.decreases-by_vector
decreases-by_vector g l = length l.out - l.done
