use Rattle.std.proofs.Common.{◌+◌, ◌*◌, arith}
use Rattle.mw_rank_bits.proofs.Sums.{seven_parts, one_part}
use Rattle.mw_rank_bits.proofs.adding.sum_at_seven.Goals as goal

pub returns : goal.returns
returns c = λ q lt.
    let cells = c.args.cells.now in
    let places = c.args.places.now in
    let i = c.args.i in
    let p = 64 * c.args.at + q in
    omega (arith, c.sum_of_seven.ensures q lt, c.three_at-a.ensures q lt, c.three_at-b.ensures q lt, c.look-last.ensures q lt, one_part cells places (i + 6) p (omega arith), seven_parts cells places i p)
