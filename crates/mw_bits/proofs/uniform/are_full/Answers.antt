use Rattle.std.proofs.Common.{arith}
use Rattle.mw_bits.proofs.UniformWords.{full_bit}
use Rattle.mw_bits.proofs.uniform.are_full.Goals as goal

pub returns : goal.returns
returns c = λ yes q lt. full_bit c.args.words.now (λ k less. c.loop-word.invariant k (omega arith)) q lt
