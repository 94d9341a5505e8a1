use Rattle.std.proofs.Common.{◌+◌, ◌≤◌, length}
use Rattle.mw_model.specs.PlanSteps.{ranked}
use Rattle.mw_model.specs.Windows.{seen_at}
use Rattle.mw_rank.specs.Ranks.{levels_under, HasRows}
use Rattle.mw_rank_medians.proofs.tiles.median_samples.Given as goal

abbrev pub invariant-loop-row : goal.invariant-loop-row
invariant-loop-row g l = record {
  wide : g.P.Vectored.WIDTH ≤ length l.piece;
  part : length l.piece ≤ l.wanted.inner.count;
  rows : HasRows g.P.Pixel.level (λ x y. ranked l.wanted.k (levels_under g.P.Pixel.level (seen_at l.wanted.window.now) l.wanted.offsets.now (l.wanted.tile.x + x) (l.wanted.tile.y + y))) l.wanted.tile.width l.row l.out.items;
}
