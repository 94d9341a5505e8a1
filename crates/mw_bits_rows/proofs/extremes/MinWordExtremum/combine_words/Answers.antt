use Rattle.std.proofs.lemmas.Nat.Bits.{bit_at_and}
use Rattle.mw_bits_rows.proofs.extremes.MinWordExtremum.combine_words.Goals as goal

pub returns : goal.returns
returns c = λ i lt. bit_at_and c.args.a c.args.b i
