-- Words that are merged before they are shifted.
use Rattle.std.proofs.Common.{◌≡◌, ℕ, ◌+◌, ◌-◌, ◌*◌, ◌/◌, ◌%◌, ◌<◌, List, get_or, ap, sym, arith, ◌∙◌, inl, inr}
use Rattle.std.specs.Int.{bit_at}
use Rattle.std.proofs.lemmas.Bool.{cases_lt}
use Rattle.mw_line.specs.mw_pixel_words.Packed.{bit_of}
use Rattle.mw_line.proofs.mw_pixel_words.Bits.{bit_of_word}
use Rattle.mw_line.proofs.mw_pixel_words.Funnels.{IsFunnel}

-- the word's bits are the merged ones of two others
pub record IsMerged (f : ℕ → ℕ → ℕ) (a b word : ℕ) : Type 0 where
  pub bits : (i : ℕ) → i < 64 → bit_at word i ≡ f (bit_at a i) (bit_at b i)

-- the merged bits of a word at two places
merged_bits : (f : ℕ → ℕ → ℕ) (words : List ℕ) (j k word i p q : ℕ) → IsMerged f (get_or words j 0) (get_or words k 0) word → i < 64 → p ≡ 64 * j + i → q ≡ 64 * k + i → bit_at word i ≡ f (bit_of words p) (bit_of words q)
merged_bits f words j k word i p q merged lt p-is q-is =
    merged.bits i lt
    ∙ ap (λ (t : ℕ). f t (bit_at (get_or words k 0) i)) (sym (bit_of_word words j i p lt p-is))
    ∙ ap (f (bit_of words p)) (sym (bit_of_word words k i q lt q-is))

-- 64 bits of two lists of words, merged, from places that lie as far into their words
pub funnel_merged : (f : ℕ → ℕ → ℕ) (words : List ℕ) (start other low high word i : ℕ) → start % 64 ≡ other % 64
    → IsMerged f (get_or words (start / 64 + i) 0) (get_or words (other / 64 + i) 0) low → IsMerged f (get_or words (start / 64 + i + 1) 0) (get_or words (other / 64 + i + 1) 0) high
    → IsFunnel low high (start % 64) word → (b : ℕ) → b < 64 → bit_at word b ≡ f (bit_of words (start + (64 * i + b))) (bit_of words (other + (64 * i + b)))
funnel_merged f words start other low high word i aligned low-is high-is funnel b lt =
    elim (cases_lt (start % 64 + b) 64) [
      | inl below ↦
          funnel.below b below
          ∙ merged_bits f words (start / 64 + i) (other / 64 + i) low (start % 64 + b) (start + (64 * i + b)) (other + (64 * i + b)) low-is below (omega arith) (omega arith)
      | inr above ↦
          funnel.above b lt above
          ∙ merged_bits f words (start / 64 + i + 1) (other / 64 + i + 1) high (start % 64 + b - 64) (start + (64 * i + b)) (other + (64 * i + b)) high-is (omega arith) (omega arith) (omega arith)
    ]
