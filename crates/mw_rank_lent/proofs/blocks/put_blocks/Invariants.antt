use Rattle.std.proofs.Common.{◌≡◌, ◌+◌, ◌-◌, ◌≤◌, length}
use Rattle.mw_rank_lent.specs.Middles.{AreRowsMade, median_at}
use Rattle.mw_rank_lent.proofs.blocks.put_blocks.Given as goal

abbrev pub invariant-by_block : goal.invariant-by_block
invariant-by_block g l = record {
  within : l.done ≤ l.area.height;
  lines : length l.lines ≡ length l.initial.lines;
  left : length l.left ≡ length l.initial.left;
  right : length l.right ≡ length l.initial.right;
  size : length l.out ≡ length l.initial.out;
  made : AreRowsMade g.P.Pixel.level (λ x j. median_at g.P.Pixel.level l.lent l.area.square (l.lent.place.x + x) (l.area.y + j)) l.lent.place.width l.done l.out;
}

abbrev pub decreases-by_block : goal.decreases-by_block
decreases-by_block g l = l.area.height - l.done
