use Rattle.std.proofs.Common.{rules, arith}
use Rattle.mw_bits.proofs.UniformWords.{clear_bit, some_bit}
use Rattle.mw_bits.proofs.uniform.are_clear.Goals as goal

pub returns : goal.returns
returns c = (λ yes q. clear_bit c.args.words.now (λ k lt. c.loop-word.invariant k (omega arith)) q, λ all. search rules)

pub returns-then-word-ne0 : goal.returns-then-word-ne0
returns-then-word-ne0 c = (λ no. search rules, λ all. absurd (some_bit c.args.words.now c.loop-word.word-index (search rules) (search rules) all))
