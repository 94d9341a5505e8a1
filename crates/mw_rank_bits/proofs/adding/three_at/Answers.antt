use Rattle.std.proofs.Common.{◌+◌, ◌*◌, arith}
use Rattle.mw_rank_bits.proofs.Sums.{three_parts}
use Rattle.mw_rank_bits.proofs.adding.three_at.Goals as goal

pub returns : goal.returns
returns c = λ q lt.
    let all = three_parts c.args.cells.now c.args.places.now c.args.i (64 * c.args.at + q) c.requires.index in
    omega (arith, c.sum_of_three.ensures q lt, c.look-a.ensures q lt, c.look-b.ensures q lt, c.look-c.ensures q lt, all)
