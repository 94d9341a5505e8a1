use Rattle.std.proofs.Common.{rules, arith}
use Rattle.mw_bits.proofs.Pairings.{none_outside, some_outside}
use Rattle.mw_bits.proofs.pairs.are_within.Goals as goal

pub returns : goal.returns
returns c = (λ yes q. none_outside c.args.words.now c.args.others.now (λ k lt. c.loop-k.invariant k (omega arith)) q, λ all. search rules)

pub returns-then-of_words-ne0 : goal.returns-then-of_words-ne0
returns-then-of_words-ne0 c = (λ no. search rules, λ all. absurd (some_outside c.args.words.now c.args.others.now c.loop-k.k c.of_words.result (search rules) (search rules) (search rules) all))
