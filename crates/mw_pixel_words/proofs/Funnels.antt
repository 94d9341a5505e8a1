-- Bits of words that are shifted.
use Rattle.std.proofs.Common.{◌≡◌, ℕ, ◌+◌, ◌-◌, ◌*◌, ◌/◌, ◌%◌, ◌^◌, ◌<◌, ◌≤◌, max, bit_or, List, get_or, ap, sym, arith, ◌∙◌, inl, inr, add-zero}
use Rattle.std.specs.Int.{bit_at}
use Rattle.std.proofs.lemmas.Bool.{cases_lt}
use Rattle.mw_pixel_words.specs.Packed.{bit_of}
use Rattle.mw_pixel_words.proofs.Bits.{bit_of_word}
use Rattle.std.proofs.lemmas.Nat.{pow-add, pow_pos, shr-shr, mul-mod_first, div-add-mod'}
use Rattle.std.proofs.lemmas.Nat.Bits.{bit_at_or, bit_at-zero, bit_at_above, bit_at_cat_low, bit_at_cat_high}

-- bits below a modulus
kept_bit : (n i : ℕ) → i < 64 → bit_at (n % 2 ^ 64) i ≡ bit_at n i
kept_bit n i lt = sym (bit_at_cat_low (n / 2 ^ 64) 64 (n % 2 ^ 64) i lt) ∙ ap (λ (t : ℕ). bit_at t i) (div-add-mod' n (2 ^ 64))

pub shl_low : (n k i : ℕ) → i < k → i < 64 → bit_at (n * 2 ^ k % 2 ^ 64) i ≡ 0
shl_low n k i low lt = kept_bit (n * 2 ^ k) i lt ∙ ap (λ (t : ℕ). bit_at t i) (sym (add-zero (n * 2 ^ k))) ∙ bit_at_cat_low n k 0 i low ∙ bit_at-zero i

pub shl_high : (n k i : ℕ) → k ≤ i → i < 64 → bit_at (n * 2 ^ k % 2 ^ 64) i ≡ bit_at n (i - k)
shl_high n k i high lt = kept_bit (n * 2 ^ k) i lt ∙ ap (λ (t : ℕ). bit_at t i) (sym (add-zero (n * 2 ^ k))) ∙ bit_at_cat_high n k 0 i (pow_pos k) high

-- two shifts that are one
twice_shifted : (n s : ℕ) → s < 64 → (n * 2 ^ 1 % 2 ^ 64) * 2 ^ (63 - s) % 2 ^ 64 ≡ n * 2 ^ (64 - s) % 2 ^ 64
twice_shifted n s lt =
    let together : 1 + (63 - s) ≡ 64 - s = omega arith in
    mul-mod_first (n * 2 ^ 1) (2 ^ (63 - s)) (2 ^ 64)
    ∙ ap (λ (t : ℕ). t % 2 ^ 64) (regroup n (2 ^ 1) (2 ^ (63 - s)) ∙ ap (λ (t : ℕ). n * t) (sym (pow-add 2 1 (63 - s))) ∙ ap (λ (t : ℕ). n * 2 ^ t) together)
  where
    regroup : (a b c : ℕ) → a * b * c ≡ a * (b * c)
    regroup a b c = omega arith

lower_bit : (low s i : ℕ) → bit_at (low / 2 ^ s) i ≡ bit_at low (s + i)
lower_bit low s i = ap (λ (t : ℕ). t % 2) (shr-shr low s i)

pub funnel_below : (low high s i : ℕ) → s < 64 → s + i < 64 → bit_at (bit_or (low / 2 ^ s) ((high * 2 ^ 1 % 2 ^ 64) * 2 ^ (63 - s) % 2 ^ 64)) i ≡ bit_at low (s + i)
funnel_below low high s i lt within =
    bit_at_or (low / 2 ^ s) ((high * 2 ^ 1 % 2 ^ 64) * 2 ^ (63 - s) % 2 ^ 64) i
    ∙ ap (λ (t : ℕ). max (bit_at (low / 2 ^ s) i) (bit_at t i)) (twice_shifted high s lt)
    ∙ ap (max (bit_at (low / 2 ^ s) i)) (shl_low high (64 - s) i (omega arith) (omega arith))
    ∙ alone (bit_at (low / 2 ^ s) i)
    ∙ lower_bit low s i
  where
    alone : (b : ℕ) → max b 0 ≡ b
    alone b = omega arith

pub funnel_above : (low high s i : ℕ) → s < 64 → low < 2 ^ 64 → i < 64 → 64 ≤ s + i → bit_at (bit_or (low / 2 ^ s) ((high * 2 ^ 1 % 2 ^ 64) * 2 ^ (63 - s) % 2 ^ 64)) i ≡ bit_at high (s + i - 64)
funnel_above low high s i lt fits less past =
    let place : i - (64 - s) ≡ s + i - 64 = omega arith in
    bit_at_or (low / 2 ^ s) ((high * 2 ^ 1 % 2 ^ 64) * 2 ^ (63 - s) % 2 ^ 64) i
    ∙ ap (λ (t : ℕ). max t (bit_at ((high * 2 ^ 1 % 2 ^ 64) * 2 ^ (63 - s) % 2 ^ 64) i)) (lower_bit low s i ∙ bit_at_above low 64 (s + i) fits past)
    ∙ alone (bit_at ((high * 2 ^ 1 % 2 ^ 64) * 2 ^ (63 - s) % 2 ^ 64) i)
    ∙ ap (λ (t : ℕ). bit_at t i) (twice_shifted high s lt)
    ∙ shl_high high (64 - s) i (omega arith) less
    ∙ ap (bit_at high) place
  where
    alone : (b : ℕ) → max 0 b ≡ b
    alone b = omega arith

-- what is known of a funnel's 64 bits
pub record IsFunnel (low high s word : ℕ) : Type 0 where
  pub below : (i : ℕ) → s + i < 64 → bit_at word i ≡ bit_at low (s + i)
  pub above : (i : ℕ) → i < 64 → 64 ≤ s + i → bit_at word i ≡ bit_at high (s + i - 64)

-- 64 bits of a list of words from a place on
pub funnel_at : (words : List ℕ) (start low high word i : ℕ) → low ≡ get_or words (start / 64 + i) 0 → high ≡ get_or words (start / 64 + i + 1) 0 → IsFunnel low high (start % 64) word
    → (b : ℕ) → b < 64 → bit_at word b ≡ bit_of words (start + (64 * i + b))
funnel_at words start low high word i low-is high-is funnel b lt =
    elim (cases_lt (start % 64 + b) 64) [
      | inl below ↦
          funnel.below b below
          ∙ ap (λ (t : ℕ). bit_at t (start % 64 + b)) low-is
          ∙ sym (bit_of_word words (start / 64 + i) (start % 64 + b) (start + (64 * i + b)) below (omega arith))
      | inr above ↦
          funnel.above b lt above
          ∙ ap (λ (t : ℕ). bit_at t (start % 64 + b - 64)) high-is
          ∙ sym (bit_of_word words (start / 64 + i + 1) (start % 64 + b - 64) (start + (64 * i + b)) (omega arith) (omega arith))
    ]
