use Rattle.std.proofs.Common.{ℕ, ◌+◌, ◌-◌, arith}
use Rattle.mw_model.specs.PlanSteps.{ranked}
use Rattle.mw_model.specs.Windows.{seen_at}
use Rattle.mw_rank.specs.Ranks.{levels_under}
use Rattle.mw_rank.specs.Runs.{element_of}
use Rattle.mw_rank.proofs.Moves.{tallies_at}
use Rattle.mw_rank.proofs.Edges.{gains_parts}
use Rattle.mw_rank.proofs.moving.push_columns.Goals as goal

pub returns-clause-row : goal.returns-clause-row
returns-clause-row g c =
    let at = c.args.row.at in
    let first = c.args.row.inner.first in
    let count = c.args.row.inner.count in
    gains_parts g.P.Pixel.level (λ (p : ℕ). ranked at.k (levels_under g.P.Pixel.level (seen_at c.args.window.now) (element_of c.args.runs.now) p at.y)) at.x (at.x + c.from.result) (at.x + c.from.result + c.from-2.result) first count (at.width - first - count) at.width
    c.args.out.now.items c.push_row.new.out.items c.push_middle.new.out.items c.push_row-2.new.out.items (omega (arith, c.from.ensures)) (omega (arith, c.from.ensures, c.from-2.ensures)) (omega (arith, c.requires.inner)) c.in_ok-push_row.ensures.row c.in_ok-push_middle.ensures.row
    c.in_ok-push_row-2.ensures.row

pub returns-clause-moved : goal.returns-clause-moved
returns-clause-moved g c =
    tallies_at g.P.Pixel.level (seen_at c.args.window.now) (element_of c.args.runs.now) _ (c.args.row.at.x + c.args.row.at.width) c.args.row.at.y g.P.Pixel.top_level c.push_row-2.new.histogram (omega (arith, c.from.ensures, c.from-2.ensures, c.requires.inner))
    c.in_ok-push_row-2.ensures.moved
