use Rattle.std.proofs.Common.{bit_xor}
use Rattle.mw_rank_bits.proofs.Vectors.{paired_long, parity_bit}
use Rattle.mw_rank_bits.proofs.lanes.parity.Goals as goal

pub invariant_of-result : goal.invariant_of-result
invariant_of-result c =
    let a = c.args.a in
    let b = c.args.b in
    record { whole = paired_long bit_xor _ c.args.c.words (paired_long bit_xor a.words b.words a.whole b.whole) c.args.c.whole }

pub returns : goal.returns
returns c = λ q. parity_bit c.args.a.words c.args.b.words c.args.c.words q c.args.a.whole c.args.b.whole c.args.c.whole
