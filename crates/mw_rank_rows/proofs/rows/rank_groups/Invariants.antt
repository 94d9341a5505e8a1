use Rattle.std.proofs.Common.{◌≡◌, ◌+◌, ◌-◌, ◌*◌, ◌≤◌, length}
use Rattle.mw_model.specs.PlanSteps.{ranked}
use Rattle.mw_model.specs.Windows.{seen_at}
use Rattle.mw_rank_counts.specs.mw_rank.Ranks.{levels_under, HasRows}
use Rattle.mw_rank_rows.specs.Tables.{LanesHold}
use Rattle.mw_rank_rows.proofs.rows.rank_groups.Given as goal

abbrev pub invariant-loop-done : goal.invariant-loop-done
invariant-loop-done g l = record {
  within : l.done ≤ l.tile.height;
  whole : length l.made ≡ 8 * l.tile.width;
  empty : LanesHold l.levels (λ v j. 0) l.counts l.lanes;
  rows : HasRows g.P.Pixel.level (λ x y. ranked l.wanted.k (levels_under g.P.Pixel.level (seen_at l.window) l.wanted.offsets.now (l.tile.x + x) (l.tile.y + y))) l.tile.width l.done l.out.items;
}

abbrev pub decreases-loop-done : goal.decreases-loop-done
decreases-loop-done g l = l.tile.height - l.done
