-- Rows whose bits past the width are made neutral.
use Rattle.std.proofs.Common.{◌≡◌, ℕ, ◌+◌, ◌-◌, ◌*◌, ◌/◌, ◌%◌, ◌^◌, ◌<◌, ◌≤◌, max, bit_or, List, length, take, drop, set, get_or, cond, nat_lt, refl, ap, sym, arith, ◌∙◌, inl, inr}
use Rattle.std.specs.Int.{bit_at}
use Rattle.std.proofs.lemmas.Bool.{cases_lt, cases_eq, lt-ltb, le-ltb}
use Rattle.std.proofs.lemmas.List.{get_or-set_same, get_or-set_other}
use Rattle.std.proofs.lemmas.Nat.Bits.{bit_at_or}
use Rattle.mw_line.specs.mw_pixel_words.Packed.{bit_of, stride_of, IsPacked}
use Rattle.mw_line.proofs.mw_pixel_words.Bits.{bit_of_word, bit_of_its_word, bit_of_part}
use Rattle.mw_line.proofs.mw_pixel_words.Funnels.{shl_low, shl_high}

-- the bits before a width, and n from there on
abbrev pub with_margin : ℕ → ℕ → List ℕ → ℕ → ℕ
with_margin n width row x = cond (nat_lt x width) (bit_of row x) n

pub margin_inside : (n width : ℕ) (row : List ℕ) (x : ℕ) → x < width → with_margin n width row x ≡ bit_of row x
margin_inside n width row x lt = rw (lt-ltb x width lt) refl

pub margin_outside : (n width : ℕ) (row : List ℕ) (x : ℕ) → width ≤ x → with_margin n width row x ≡ n
margin_outside n width row x past = rw (le-ltb x width past) refl

-- the last word with neutral bits past the width
pub margin_filled : (n width rest last neutral : ℕ) (row : List ℕ) (x : ℕ) → ((i : ℕ) → i < 64 → bit_at neutral i ≡ n) → rest ≡ width % 64 → 0 < rest → last ≡ width / 64 → length row ≡ stride_of width
    → ((q : ℕ) → width ≤ q → q < 64 * stride_of width → bit_of row q ≡ 0) → x < 64 * stride_of width
    → bit_of (set row last (bit_or (get_or row last 0) (neutral * 2 ^ rest % 2 ^ 64))) x ≡ with_margin n width row x
margin_filled n width rest last neutral row x neutral-is rest-is some last-is size clean lt =
    let word = bit_or (get_or row last 0) (neutral * 2 ^ rest % 2 ^ 64) in
    let made = set row last word in
    let room : last < length row = omega arith in
    elim (cases_eq (x / 64) last) [
      | inl here ↦
          let b = x % 64 in
          let place : x ≡ 64 * last + b = omega arith in
          let old = bit_of_word row last b x (omega arith) place in
          bit_of_word made last b x (omega arith) place
          ∙ ap (λ (t : ℕ). bit_at t b) (get_or-set_same row last word 0 room)
          ∙ bit_at_or (get_or row last 0) (neutral * 2 ^ rest % 2 ^ 64) b
          ∙ elim (cases_lt b rest) [
            | inl below ↦
                ap (max (bit_at (get_or row last 0) b)) (shl_low neutral rest b below (omega arith))
                ∙ alone (bit_at (get_or row last 0) b)
                ∙ sym old
                ∙ sym (margin_inside n width row x (omega arith))
            | inr above ↦
                ap (max (bit_at (get_or row last 0) b)) (shl_high neutral rest b above (omega arith) ∙ neutral-is (b - rest) (omega arith))
                ∙ ap (λ (t : ℕ). max t n) (sym old ∙ clean x (omega arith) lt)
                ∙ none n
                ∙ sym (margin_outside n width row x (omega arith))
          ]
      | inr other ↦
          bit_of_its_word made x
          ∙ ap (λ (t : ℕ). bit_at t (x % 64)) (get_or-set_other row last (x / 64) word 0 other)
          ∙ sym (bit_of_its_word row x)
          ∙ sym (margin_inside n width row x (omega arith))
    ]
  where
    alone : (b : ℕ) → max b 0 ≡ b
    alone b = omega arith

    none : (b : ℕ) → max 0 b ≡ b
    none b = omega arith

-- a row of packed rows that is as it was
pub row_still_clean : (width high y stride m : ℕ) (old rows : List ℕ) (x : ℕ) → stride ≡ stride_of width → m ≡ stride → IsPacked width high old → ((k : ℕ) → y * stride_of width ≤ k → get_or rows k 0 ≡ get_or old k 0)
    → y < high → width ≤ x → x < 64 * stride_of width → bit_of (take m (drop (y * stride) rows)) x ≡ 0
row_still_clean width high y stride m old rows x stride-is m-is packed same row_less past lt =
    let s = stride_of width in
    let start : y * stride ≡ y * s = ap (λ (t : ℕ). y * t) stride-is in
    let place : y * (64 * s) + x ≡ 64 * (y * stride) + x = omega (arith, start) in
    let in_word : y * (64 * s) + x ≡ 64 * (y * s + x / 64) + x % 64 = omega arith in
    bit_of_part rows (y * stride) m x (y * (64 * s) + x) (omega arith) place
    ∙ bit_of_word rows (y * s + x / 64) (x % 64) (y * (64 * s) + x) (omega arith) in_word
    ∙ ap (λ (t : ℕ). bit_at t (x % 64)) (same (y * s + x / 64) (omega arith))
    ∙ sym (bit_of_word old (y * s + x / 64) (x % 64) (y * (64 * s) + x) (omega arith) in_word)
    ∙ packed.clean x y row_less past lt
