use Rattle.std.proofs.Common.{◌+◌, ◌*◌, arith}
use Rattle.mw_rank_bits.proofs.Sums.{one_part}
use Rattle.mw_rank_bits.proofs.adding.sum_at_one.Goals as goal

pub returns : goal.returns
returns c = λ q lt.
    let all = one_part c.args.cells.now c.args.places.now c.args.i (64 * c.args.at + q) c.requires.index in
    omega (arith, c.look.ensures q lt, c.all_or_none.ensures q lt, c.all_or_none-2.ensures q lt, all)
