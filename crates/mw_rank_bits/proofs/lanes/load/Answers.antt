use Rattle.std.proofs.Common.{◌+◌, refl}
use Rattle.mw_rank_bits.proofs.Vectors.{loaded_bit, loaded_long}
use Rattle.mw_rank_bits.proofs.lanes.load.Goals as goal

pub invariant_of-result : goal.invariant_of-result
invariant_of-result c = record { whole = loaded_long c.args.words.now c.args.at (c.args.at + 2) refl c.requires }

pub returns : goal.returns
returns c = λ q. loaded_bit c.args.words.now c.args.at (c.args.at + 2) q refl c.requires
