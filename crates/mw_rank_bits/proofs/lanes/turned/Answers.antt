use Rattle.std.proofs.Common.{bit_xor, refl}
use Rattle.mw_rank_bits.proofs.Vectors.{paired_long, turned_bit}
use Rattle.mw_rank_bits.proofs.lanes.turned.Goals as goal

pub invariant_of-result : goal.invariant_of-result
invariant_of-result c = record { whole = paired_long bit_xor c.args.a.words _ c.args.a.whole refl }

pub returns : goal.returns
returns c = λ q. turned_bit c.args.a.words q c.args.a.whole
