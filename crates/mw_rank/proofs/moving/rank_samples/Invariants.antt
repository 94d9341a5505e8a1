use Rattle.std.proofs.Common.{◌+◌, []}
use Rattle.mw_model.specs.PlanSteps.{ranked}
use Rattle.mw_model.specs.Windows.{seen_at}
use Rattle.mw_rank.specs.Ranks.{levels_under, HasRows}
use Rattle.mw_rank.specs.Tallies.{Tallies}
use Rattle.mw_rank.proofs.moving.rank_samples.Given as goal

abbrev pub invariant-loop-j : goal.invariant-loop-j
invariant-loop-j g l = record {
  empty : Tallies g.P.Pixel.top_level l.histogram [];
  rows : HasRows g.P.Pixel.level (λ x y. ranked l.k (levels_under g.P.Pixel.level (seen_at l.window) l.offsets (l.tile.x + x) (l.tile.y + y))) l.tile.width l.j l.out.items;
}
