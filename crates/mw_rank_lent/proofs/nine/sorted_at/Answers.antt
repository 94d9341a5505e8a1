use Rattle.std.proofs.Common.{◌+◌, arith}
use Rattle.mw_rank_medians.specs.Columns.{column_below}
use Rattle.mw_rank_lent.proofs.Nines.{three_loaded}
use Rattle.mw_rank_lent.proofs.nine.sorted_at.Goals as goal

pub returns : goal.returns
returns g c = λ i lt.
    let level = g.P.Pixel.level in
    let top = g.P.Pixel.TOP in
    let sheet = c.args.sheet in
    let first = sheet.from + c.args.at in
    c.sorted_of.ensures i (column_below level top sheet.samples.now sheet.from sheet.stride 3 (c.args.at + i))
    (λ t. three_loaded level top sheet.samples.now sheet.from sheet.stride (c.args.at + i) (first + i) (first + sheet.stride + i) (first + sheet.stride + sheet.stride + i) _ _ _ t (omega arith) (omega arith) (omega arith) (c.load_wide.ensures i lt) (c.load_wide-2.ensures i lt) (c.load_wide-3.ensures i lt))
