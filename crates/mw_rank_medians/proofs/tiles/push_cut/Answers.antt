use Rattle.std.proofs.Common.{◌+◌}
use Rattle.mw_model.specs.PlanSteps.{ranked}
use Rattle.mw_model.specs.Windows.{seen_at}
use Rattle.mw_rank.specs.Ranks.{levels_under}
use Rattle.mw_rank.proofs.Rows.{gains_more}
use Rattle.mw_rank_medians.proofs.tiles.push_cut.Goals as goal

pub loop-i-preserved : goal.loop-i-preserved
loop-i-preserved g c =
    let level = g.P.Pixel.level in
    let wanted = c.args.wanted in
    gains_more level (λ i. ranked wanted.k (levels_under level (seen_at wanted.window.now) wanted.offsets.now (c.args.part.x + i) (wanted.tile.y + c.args.part.row))) c.loop-i.i c.args.out.now.items c.loop-i.out.items c.push.new.self.items c.in_ok-sample.sample
    c.in_ok-push.ensures.items c.in_ok-sample.ensures c.loop-i.invariant
