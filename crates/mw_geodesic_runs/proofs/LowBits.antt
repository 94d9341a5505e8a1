-- The lowest bits of words that are set, or are not.
use Rattle.std.proofs.Common.{◌≡◌, ◌≢◌, ℕ, ◌+◌, ◌-◌, ◌*◌, ◌/◌, ◌%◌, ◌^◌, ◌<◌, ◌≤◌, Bool, true, false, List, get_or, w64, ap, sym, arith, ◌∙◌, inl, inr}
use Rattle.std.specs.Prelude.{if◌then◌else◌}
use Rattle.std.specs.Int.{bit_at, trailing_zeros}
use Rattle.std.proofs.lemmas.Bool.{cases_lt}
use Rattle.std.proofs.lemmas.Nat.{shr-shr, shr_le}
use Rattle.std.proofs.lemmas.Nat.Bits.{bit_at-zero, bit_at_above, bit_at-trailing_zeros}
use Rattle.mw_pixel.specs.mw_pixel_words.Packed.{bit_of}
use Rattle.mw_pixel.proofs.mw_pixel_words.Bits.{bit_of_word, bit_of-lt}

shifted : (word low i : ℕ) → bit_at (word / 2 ^ low) i ≡ bit_at word (low + i)
shifted word low i = ap (λ (t : ℕ). t % 2) (shr-shr word low i)

from_low : (word low i : ℕ) → low ≤ i → bit_at word i ≡ bit_at (word / 2 ^ low) (i - low)
from_low word low i le =
    let at : low + (i - low) ≡ i = omega arith in
    ap (bit_at word) (sym at) ∙ sym (shifted word low (i - low))

pub none_from : (word low i : ℕ) → word / 2 ^ low ≡ 0 → low ≤ i → bit_at word i ≡ 0
none_from word low i none le = from_low word low i le ∙ ap (λ (t : ℕ). bit_at t (i - low)) none ∙ bit_at-zero (i - low)

-- the lowest bit from one on that is set
pub record IsLowest (word low k : ℕ) : Type 0 where
  pub within : low + k < 64
  pub found : bit_at word (low + k) ≡ 1
  pub none : (i : ℕ) → low ≤ i → i < low + k → bit_at word i ≡ 0

pub lowest_is : (word low : ℕ) → word < 2 ^ 64 → word / 2 ^ low ≢ 0 → IsLowest word low (trailing_zeros w64 (word / 2 ^ low))
lowest_is word low small some =
    let left = word / 2 ^ low in
    let no_more = shr_le word low in
    let first = bit_at-trailing_zeros w64 left (positive left some) (omega arith) in
    let k = trailing_zeros w64 left in
    let found : bit_at word (low + k) ≡ 1 = sym (shifted word low k) ∙ first.1 in
    record {
      within = elim (cases_lt (low + k) 64) [
        | inl less ↦ less
        | inr past ↦ let none = bit_at_above word 64 (low + k) small past in absurd (omega arith)
      ];
      found = found;
      none = λ i le lt. from_low word low i le ∙ first.2 (i - low) (omega arith);
    }
  where
    positive : (n : ℕ) → n ≢ 0 → 0 < n
    positive n ne = elim (cases_lt 0 n) [ inl lt ↦ lt | inr le ↦ absurd (ne (omega arith)) ]

-- ---- words whose bits are turned round, or are not

abbrev pub turned : Bool → ℕ → ℕ
turned wanted b = if wanted then b else 1 - b

turned_none : (wanted : Bool) (b t : ℕ) → b < 2 → t ≡ turned wanted b → t ≡ 0 → b ≡ (if wanted then 0 else 1)
turned_none true b t small is none = omega arith
turned_none false b t small is none = omega arith

turned_one : (wanted : Bool) (b t : ℕ) → b < 2 → t ≡ turned wanted b → t ≡ 1 → b ≡ (if wanted then 1 else 0)
turned_one true b t small is one = omega arith
turned_one false b t small is one = omega arith

-- the word that is looked at, and the same turned round
pub record IsTurned (words : List ℕ) (wanted : Bool) (k word : ℕ) : Type 0 where
  pub bits : (i : ℕ) → i < 64 → bit_at word i ≡ turned wanted (bit_at (get_or words k 0) i)

turned_at : (words : List ℕ) (wanted : Bool) (k word i x : ℕ) → i < 64 → x ≡ 64 * k + i → IsTurned words wanted k word → bit_at word i ≡ turned wanted (bit_of words x)
turned_at words wanted k word i x lt is turns = turns.bits i lt ∙ ap (turned wanted) (sym (bit_of_word words k i x lt is))

pub row_none : (words : List ℕ) (wanted : Bool) (k word low place x : ℕ) → IsTurned words wanted k word → place ≤ 64 → ((i : ℕ) → low ≤ i → i < place → bit_at word i ≡ 0) → 64 * k + low ≤ x → x < 64 * k + place
    → bit_of words x ≡ (if wanted then 0 else 1)
row_none words wanted k word low place x turns small none from to =
    turned_none wanted (bit_of words x) (bit_at word (x - 64 * k)) (bit_of-lt words x) (turned_at words wanted k word (x - 64 * k) x (omega arith) (omega arith) turns) (none (x - 64 * k) (omega arith) (omega arith))

pub row_found : (words : List ℕ) (wanted : Bool) (k word place : ℕ) → IsTurned words wanted k word → place < 64 → bit_at word place ≡ 1 → bit_of words (64 * k + place) ≡ (if wanted then 1 else 0)
row_found words wanted k word place turns small found =
    turned_one wanted (bit_of words (64 * k + place)) (bit_at word place) (bit_of-lt words (64 * k + place)) (turned_at words wanted k word place (64 * k + place) small (omega arith) turns) found
