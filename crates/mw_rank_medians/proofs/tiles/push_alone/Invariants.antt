use Rattle.std.proofs.Common.{◌+◌}
use Rattle.mw_model.specs.PlanSteps.{ranked}
use Rattle.mw_model.specs.Windows.{seen_at}
use Rattle.mw_rank.specs.Ranks.{levels_under, GainsRow}
use Rattle.mw_rank_medians.proofs.tiles.push_alone.Given as goal

abbrev pub invariant-loop-i : goal.invariant-loop-i
invariant-loop-i g l = GainsRow g.P.Pixel.level (λ i. ranked l.wanted.k (levels_under g.P.Pixel.level (seen_at l.wanted.window.now) l.wanted.offsets.now (l.part.x + i) (l.wanted.tile.y + l.part.row))) l.i l.initial.out.items l.out.items
