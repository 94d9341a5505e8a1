-- Numbers whose binary digits stand in planes of bits.
use Rattle.std.specs.Prelude.{◌≡◌, ℕ, zero, suc, ◌+◌, ◌*◌, ◌^◌, ◌<◌, ◌≤◌, List}
use Rattle.std.specs.List.{sum_by}
use Rattle.mw_bits.specs.mw_pixel_words.Packed.{bit_of}
use Rattle.mw_rank_bits.specs.declared.adding.TwoDigits.{TwoDigits}
use Rattle.mw_rank_bits.specs.declared.adding.ThreeDigits.{ThreeDigits}

-- how many of the bits are set that stand at these places, counted from a place
abbrev pub bits_at : List ℕ → List ℕ → ℕ → ℕ
bits_at cells places q = sum_by (λ (s : ℕ). bit_of cells (s + q)) places

-- the number at a place
abbrev pub two_digits : TwoDigits → ℕ → ℕ
two_digits d q = bit_of d.ones.words q + 2 * bit_of d.twos.words q

abbrev pub three_digits : ThreeDigits → ℕ → ℕ
three_digits d q = bit_of d.ones.words q + 2 * bit_of d.twos.words q + 4 * bit_of d.fours.words q

-- The number at a place of n planes of 128 bits each, one behind the other; the lowest digits stand in the first plane. A digit
-- counts as what it is seen as.
abbrev pub number_at : (ℕ → ℕ) → ℕ → List ℕ → ℕ → ℕ
number_at seen zero planes q = 0
number_at seen (suc n) planes q = number_at seen n planes q + 2 ^ n * seen (bit_of planes (128 * n + q))

-- to the numbers of the first n planes others were added, but for what is carried on; the other planes are as they were
pub record HasCarried (seen : ℕ → ℕ) (n : ℕ) (more : ℕ → ℕ) (carry old new : List ℕ) : Type 0 where
  pub changed : (q : ℕ) → q < 128 → number_at seen n new q + 2 ^ n * bit_of carry q ≡ number_at seen n old q + more q
  pub others : (p : ℕ) → 128 * n ≤ p → bit_of new p ≡ bit_of old p

-- others were added to the numbers, where they are small enough
abbrev pub HasAdded : (ℕ → ℕ) → ℕ → (ℕ → ℕ) → List ℕ → List ℕ → Type 0
HasAdded seen n more old new = (q : ℕ) → q < 128 → number_at seen n old q + more q < 2 ^ n → number_at seen n new q ≡ number_at seen n old q + more q
