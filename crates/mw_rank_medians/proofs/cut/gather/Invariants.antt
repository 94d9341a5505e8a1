use Rattle.std.proofs.Common.{◌≡◌, ◌+◌, length, take}
use Rattle.mw_model.specs.Windows.{seen_at}
use Rattle.mw_rank.specs.Ranks.{levels_under}
use Rattle.mw_rank.specs.Tallies.{count_under}
use Rattle.mw_rank_medians.proofs.cut.gather.Given as goal

abbrev pub invariant-loop-offset : goal.invariant-loop-offset
invariant-loop-offset g l = record {
  levels : l.seen.items ≡ levels_under g.P.Pixel.level (seen_at l.window) (take l.offset-index l.offsets) l.x l.y;
  small : count_under (g.P.Pixel.top_level + 1) l.seen.items ≡ length l.seen.items;
}
