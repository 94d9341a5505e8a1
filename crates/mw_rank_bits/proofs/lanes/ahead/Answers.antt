use Rattle.std.proofs.Common.{◌+◌, refl, arith}
use Rattle.mw_rank_bits.proofs.Vectors.{ahead_bit, funnelled_long, loaded_long}
use Rattle.mw_rank_bits.proofs.lanes.ahead.Goals as goal

pub invariant_of-result : goal.invariant_of-result
invariant_of-result c =
    let words = c.args.words.now in
    let at = c.args.at in
    record { whole = funnelled_long _ _ c.args.shift (loaded_long words at (at + 2) refl (omega arith)) (loaded_long words (at + 1) (at + 3) (omega arith) c.requires.room) }

pub returns : goal.returns
returns c = λ q. ahead_bit c.args.words.now c.args.at c.args.shift q (λ k. (c.type_inv.words k).fits) c.requires.small c.requires.room
