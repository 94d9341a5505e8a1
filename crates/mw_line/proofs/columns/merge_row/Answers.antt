use Rattle.std.proofs.Common.{◌+◌, ◌-◌, ◌*◌, drop, arith, length-take, length-drop}
use Rattle.mw_line.proofs.Growing.{row_merged, row_below, row_above}
use Rattle.mw_line.proofs.columns.merge_row.Goals as goal

pub returns-clause-row : goal.returns-clause-row
returns-clause-row g c =
    let w = c.args.width in
    let at = c.args.at in
    let rows = c.args.rows.now in
    let m = at * w + (c.args.down * w + w) - at * w in
    let made = c.combine_ahead.new.row in
    let part = length-take m (drop (at * w) rows) in
    let rest = length-drop (at * w) rows in
    λ x d less. row_merged g.E.Extremum.merge w at c.args.down m rows made x d (omega (arith, c.requires)) (omega arith) (omega (arith, c.combine_ahead.auto.row, part, rest, c.requires))
    (c.combine_ahead.ensures.within x d less) less

pub returns-clause-above : goal.returns-clause-above
returns-clause-above g c =
    let w = c.args.width in
    let at = c.args.at in
    let m = at * w + (c.args.down * w + w) - at * w in
    λ x y d less above. row_above w at m c.args.rows.now c.combine_ahead.new.row x y d (omega (arith, c.requires)) less above

pub returns-clause-below : goal.returns-clause-below
returns-clause-below g c =
    let w = c.args.width in
    let at = c.args.at in
    let rows = c.args.rows.now in
    let m = at * w + (c.args.down * w + w) - at * w in
    let made = c.combine_ahead.new.row in
    let part = length-take m (drop (at * w) rows) in
    let rest = length-drop (at * w) rows in
    λ x y d less below. row_below w at m rows made x y d (omega (arith, c.requires)) (omega (arith, c.combine_ahead.auto.row, part, rest, c.requires))
    (λ p d from. c.combine_ahead.ensures.past p d from) less below
