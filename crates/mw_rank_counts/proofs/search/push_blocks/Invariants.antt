use Rattle.std.proofs.Common.{◌≤◌, ◌-◌}
use Rattle.mw_model.specs.PlanSteps.{ranked}
use Rattle.mw_rank_counts.specs.Counting.{levels_on}
use Rattle.mw_rank.specs.Ranks.{GainsRow}
use Rattle.mw_rank_counts.specs.Squeezed.{BytesHaveRoom}
use Rattle.mw_rank_counts.proofs.search.push_blocks.Given as goal

abbrev pub invariant-loop-done : goal.invariant-loop-done
invariant-loop-done g l = record {
  within : l.done ≤ l.count;
  room : BytesHaveRoom l.bytes;
  row : GainsRow g.P.Pixel.level (λ i. ranked l.search.k (levels_on g.P.Pixel.level g.P.Pixel.TOP l.samples l.places i)) l.done l.initial.out.items l.out.items;
}

abbrev pub decreases-loop-done : goal.decreases-loop-done
decreases-loop-done g l = l.count - l.done
