use Rattle.std.proofs.lemmas.Nat.Bits.{bit_at_ones}
use Rattle.mw_bits_rows.proofs.extremes.MinWordExtremum.neutral_word.Goals as goal

pub returns : goal.returns
returns c = λ i lt. bit_at_ones 64 i lt
