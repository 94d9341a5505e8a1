use Rattle.std.proofs.lemmas.Nat.Bits.{bit_at_or}
use Rattle.mw_bits_rows.proofs.merging.EitherPairOfWords.of_words.Goals as goal

pub returns : goal.returns
returns c = λ i lt. bit_at_or c.args.a c.args.b i
