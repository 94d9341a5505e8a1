use Rattle.std.proofs.Common.{◌+◌, ◌-◌, ◌≤◌}
use Rattle.mw_model.specs.PlanSteps.{ranked}
use Rattle.mw_model.specs.Windows.{seen_at}
use Rattle.mw_rank_counts.specs.mw_rank.Ranks.{levels_under}
use Rattle.mw_rank_rows.specs.Blocks.{HasColumns}
use Rattle.mw_rank_rows.proofs.bands.rank_band.Given as goal

abbrev pub invariant-loop-done : goal.invariant-loop-done
invariant-loop-done g l = record {
  within : l.done ≤ l.band.width;
  columns : HasColumns g.P.Pixel.level (λ x y. ranked l.wanted.k (levels_under g.P.Pixel.level (seen_at l.window) l.wanted.offsets.now (l.band.x + x) (l.band.y + y))) l.band.width l.band.height l.done l.out.items;
}

abbrev pub decreases-loop-done : goal.decreases-loop-done
decreases-loop-done g l = l.band.width - l.done
