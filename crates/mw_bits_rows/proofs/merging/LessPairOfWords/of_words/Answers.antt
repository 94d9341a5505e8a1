use Rattle.std.proofs.Common.{ℕ, ◌≡◌, ◌-◌, ◌<◌, min, w64, ap, arith, ◌∙◌}
use Rattle.std.specs.Int.{bit_at, bit_not}
use Rattle.std.proofs.lemmas.Nat.Bits.{bit_at_and, bit_at_not, bit_at-lt}
use Rattle.mw_bits_rows.proofs.merging.LessPairOfWords.of_words.Goals as goal

less : (m n : ℕ) → m < 2 → n < 2 → min m (1 - n) ≡ m - n
less m n small few = omega arith

pub returns : goal.returns
returns c = λ i lt.
    let a = c.args.a in
    let b = c.args.b in
    bit_at_and a (bit_not w64 b) i ∙ ap (min (bit_at a i)) (bit_at_not w64 b i (omega arith) lt) ∙ less (bit_at a i) (bit_at b i) (bit_at-lt a i) (bit_at-lt b i)
