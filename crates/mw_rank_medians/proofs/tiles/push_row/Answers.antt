use Rattle.std.proofs.Common.{ℕ, ◌+◌, ◌-◌, arith, refl}
use Rattle.mw_model.specs.PlanSteps.{ranked}
use Rattle.mw_model.specs.Windows.{seen_at}
use Rattle.mw_rank.specs.Ranks.{levels_under}
use Rattle.mw_rank.proofs.Edges.{gains_parts}
use Rattle.mw_rank_medians.proofs.tiles.push_row.Goals as goal

pub returns-clause-medians : goal.returns-clause-medians
returns-clause-medians g c =
    let level = g.P.Pixel.level in
    let wanted = c.args.wanted in
    let tile = wanted.tile in
    let first = wanted.inner.first in
    let count = wanted.inner.count in
    let value = λ (x : ℕ). ranked wanted.k (levels_under level (seen_at wanted.window.now) wanted.offsets.now x (tile.y + c.args.row)) in
    gains_parts level value tile.x (tile.x + first) (tile.x + (first + count)) first count (tile.width - (first + count)) tile.width c.args.out.now.items c.push_side.new.out.items c.push_inner.new.out.items c.push_side-2.new.out.items refl refl
    (omega (arith, c.requires.inner))
    c.in_ok-push_side.ensures c.in_ok-push_inner.ensures.medians c.in_ok-push_side-2.ensures
