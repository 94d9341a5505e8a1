use Rattle.std.proofs.Common.{◌+◌, arith}
use Rattle.mw_rank_medians.specs.Columns.{column_below}
use Rattle.mw_rank_medians.proofs.Columns.{five_loaded}
use Rattle.mw_rank_medians.proofs.rows.columns_of_five.Goals as goal

pub returns : goal.returns
returns g c = λ i lt.
    let level = g.P.Pixel.level in
    let top = g.P.Pixel.TOP in
    let sheet = c.args.sheet in
    let first = sheet.from + c.args.at in
    let second = first + sheet.stride in
    let third = second + sheet.stride in
    let fourth = third + sheet.stride in
    c.five_in_order.ensures i (column_below level top sheet.samples.now sheet.from sheet.stride 5 (c.args.at + i))
    (λ t. five_loaded level top sheet.samples.now sheet.from sheet.stride (c.args.at + i) (first + i) (second + i) (third + i) (fourth + i) (fourth + sheet.stride + i) _ _ _ _ _ t (omega arith) (omega arith) (omega arith) (omega arith) (omega arith)
    (c.load.ensures i lt) (c.load-2.ensures i lt) (c.load-3.ensures i lt) (c.load-4.ensures i lt) (c.load-5.ensures i lt))
