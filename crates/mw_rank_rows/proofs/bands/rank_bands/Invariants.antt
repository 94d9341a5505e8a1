use Rattle.std.proofs.Common.{◌+◌, ◌-◌, ◌≤◌}
use Rattle.mw_model.specs.PlanSteps.{ranked}
use Rattle.mw_model.specs.Windows.{seen_at}
use Rattle.mw_rank_counts.specs.mw_rank.Ranks.{levels_under, HasRows}
use Rattle.mw_rank_rows.proofs.bands.rank_bands.Given as goal

abbrev pub invariant-loop-done : goal.invariant-loop-done
invariant-loop-done g l = record {
  within : l.done ≤ l.tile.height;
  rows : HasRows g.P.Pixel.level (λ x y. ranked l.wanted.k (levels_under g.P.Pixel.level (seen_at l.window) l.wanted.offsets.now (l.tile.x + x) (l.tile.y + y))) l.tile.width l.done l.out.items;
}

abbrev pub decreases-loop-done : goal.decreases-loop-done
decreases-loop-done g l = l.tile.height - l.done
