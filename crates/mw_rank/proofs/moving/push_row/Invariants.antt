use Rattle.std.proofs.Common.{◌+◌}
use Rattle.mw_model.specs.PlanSteps.{ranked}
use Rattle.mw_model.specs.Windows.{seen_at}
use Rattle.mw_rank.specs.Ranks.{levels_under, GainsRow}
use Rattle.mw_rank.specs.Runs.{element_of}
use Rattle.mw_rank.specs.Tallies.{Tallies}
use Rattle.mw_rank.proofs.moving.push_row.Given as goal

abbrev pub invariant-loop-i : goal.invariant-loop-i
invariant-loop-i g l = record {
  tallies : Tallies g.P.Pixel.top_level l.histogram (levels_under g.P.Pixel.level (seen_at l.window) (element_of l.runs) (l.at.x + l.i) l.at.y);
  row : GainsRow g.P.Pixel.level (λ i. ranked l.at.k (levels_under g.P.Pixel.level (seen_at l.window) (element_of l.runs) (l.at.x + i) l.at.y)) l.i l.initial.out.items l.out.items;
}
