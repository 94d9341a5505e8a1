use Rattle.std.proofs.Common.{◌≡◌, ◌+◌, length}
use Rattle.mw_model.specs.PlanSteps.{ranked}
use Rattle.mw_model.specs.Windows.{seen_at}
use Rattle.mw_rank.specs.Ranks.{levels_under, HasRows}
use Rattle.mw_rank_counts.specs.Squeezed.{BytesHaveRoom}
use Rattle.mw_rank_counts.proofs.counting.count_samples.Given as goal

abbrev pub invariant-loop-row : goal.invariant-loop-row
invariant-loop-row g l = record {
  whole : length l.scratch.found.items ≡ 32;
  room : BytesHaveRoom l.scratch.bytes;
  rows : HasRows g.P.Pixel.level (λ x y. ranked l.wanted.search.k (levels_under g.P.Pixel.level (seen_at l.window) l.wanted.offsets.now (l.wanted.tile.x + x) (l.wanted.tile.y + y))) l.wanted.tile.width l.row l.out.items;
}
