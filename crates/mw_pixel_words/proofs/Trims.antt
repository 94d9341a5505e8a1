-- Rows of words that are cut to a width.
use Rattle.std.proofs.Common.{◌≡◌, ℕ, zero, suc, ◌+◌, ◌-◌, ◌*◌, ◌/◌, ◌%◌, ◌^◌, ◌<◌, ◌≤◌, min, bit_and, List, length, take, set, get_or, cond, nat_lt, refl, ap, sym, arith, ◌∙◌, inl, inr}
use Rattle.std.specs.Int.{bit_at}
use Rattle.std.proofs.lemmas.Bool.{cases_lt, cases_eq, lt-ltb, le-ltb}
use Rattle.std.proofs.lemmas.List.{get_or-set_same, get_or-set_other}
use Rattle.std.proofs.lemmas.Nat.Bits.{bit_at_and, bit_at_ones, bit_at_ones_above, bit_at-lt}
use Rattle.mw_pixel_words.specs.Packed.{bit_of, stride_of, IsPacked}
use Rattle.mw_pixel_words.proofs.Bits.{bit_of_word, bit_of_its_word, bit_of_part, rows_fit}

-- the bits before a width, and 0 from there on
abbrev pub cut_at : ℕ → List ℕ → ℕ → ℕ
cut_at width row x = cond (nat_lt x width) (bit_of row x) 0

pub cut_inside : (width : ℕ) (row : List ℕ) (x : ℕ) → x < width → cut_at width row x ≡ bit_of row x
cut_inside width row x lt = rw (lt-ltb x width lt) refl

pub cut_outside : (width : ℕ) (row : List ℕ) (x : ℕ) → width ≤ x → cut_at width row x ≡ 0
cut_outside width row x past = rw (le-ltb x width past) refl

low_bits : (word rest b mask : ℕ) → mask ≡ 2 ^ rest - 1 → b < rest → bit_at (bit_and word mask) b ≡ bit_at word b
low_bits word rest b mask mask-is lt =
    bit_at_and word mask b
    ∙ ap (λ (t : ℕ). min (bit_at word b) (bit_at t b)) mask-is
    ∙ ap (min (bit_at word b)) (bit_at_ones rest b lt)
    ∙ below_two (bit_at word b) (bit_at-lt word b)
  where
    below_two : (n : ℕ) → n < 2 → min n 1 ≡ n
    below_two n less = omega arith

high_bits : (word rest b mask : ℕ) → mask ≡ 2 ^ rest - 1 → rest ≤ b → bit_at (bit_and word mask) b ≡ 0
high_bits word rest b mask mask-is past =
    bit_at_and word mask b
    ∙ ap (λ (t : ℕ). min (bit_at word b) (bit_at t b)) mask-is
    ∙ ap (min (bit_at word b)) (bit_at_ones_above rest b past)
    ∙ none (bit_at word b)
  where
    none : (n : ℕ) → min n 0 ≡ 0
    none n = omega arith

-- the last word cut by a mask
pub trim_last : (width rest last mask : ℕ) (row : List ℕ) (x : ℕ) → rest ≡ width % 64 → 0 < rest → last ≡ width / 64 → mask ≡ 2 ^ rest - 1 → length row ≡ stride_of width → x < 64 * stride_of width
    → bit_of (set row last (bit_and (get_or row last 0) mask)) x ≡ cut_at width row x
trim_last width rest last mask row x rest-is some last-is mask-is size lt =
    let made = set row last (bit_and (get_or row last 0) mask) in
    let room : last < length row = omega arith in
    elim (cases_eq (x / 64) last) [
      | inl here ↦
          let b = x % 64 in
          let place : x ≡ 64 * last + b = omega arith in
          bit_of_word made last b x (omega arith) place
          ∙ ap (λ (t : ℕ). bit_at t b) (get_or-set_same row last (bit_and (get_or row last 0) mask) 0 room)
          ∙ elim (cases_lt b rest) [
            | inl below ↦
                low_bits (get_or row last 0) rest b mask mask-is below
                ∙ sym (bit_of_word row last b x (omega arith) place)
                ∙ sym (cut_inside width row x (omega arith))
            | inr above ↦ high_bits (get_or row last 0) rest b mask mask-is above ∙ sym (cut_outside width row x (omega arith))
          ]
      | inr other ↦
          let before : x < width = omega arith in
          bit_of_its_word made x
          ∙ ap (λ (t : ℕ). bit_at t (x % 64)) (get_or-set_other row last (x / 64) (bit_and (get_or row last 0) mask) 0 other)
          ∙ sym (bit_of_its_word row x)
          ∙ sym (cut_inside width row x before)
    ]

-- each row was cut to the width
abbrev pub HasTrimmed : ℕ → ℕ → List ℕ → List ℕ → Type 0
HasTrimmed width height old new =
    (x y : ℕ) → x < 64 * stride_of width → y < height → bit_of new (y * (64 * stride_of width) + x) ≡ cond (nat_lt x width) (bit_of old (y * (64 * stride_of width) + x)) 0

-- rows that were cut are packed
pub trimmed_rows : (width height : ℕ) (old new : List ℕ) → length new ≡ height * stride_of width → HasTrimmed width height old new → IsPacked width height new
trimmed_rows width height old new size done = record {
  size = size;
  clean = λ x y row_less past less. done x y less row_less ∙ rw (le-ltb x width past) refl;
}

-- and have the pixels that they had
pub trimmed_bit : (width height : ℕ) (old new : List ℕ) → HasTrimmed width height old new → (x y : ℕ) → x < width → y < height → bit_of new (y * (64 * stride_of width) + x) ≡ bit_of old (y * (64 * stride_of width) + x)
trimmed_bit width height old new done x y lt row_less = done x y (wider width x lt) row_less ∙ rw (lt-ltb x width lt) refl
  where
    wider : (width x : ℕ) → x < width → x < 64 * stride_of width
    wider width x less = omega arith

-- the first words of rows, cut to the width
pub first_trimmed : (width height s wide : ℕ) (cells old new : List ℕ) → s ≡ stride_of width
    → ((x y : ℕ) → x < 64 * s → y < height → bit_of old (y * (64 * s) + x) ≡ bit_of cells (y * (64 * wide) + x)) → HasTrimmed width height old new
    → (x y : ℕ) → x < width → y < height → bit_of new (y * (64 * stride_of width) + x) ≡ bit_of cells (y * (64 * wide) + x)
first_trimmed width height s wide cells old new s-is first done x y lt row_less =
    trimmed_bit width height old new done x y lt row_less
    ∙ ap (λ (t : ℕ). bit_of old (y * (64 * t) + x)) (sym s-is)
    ∙ first x y (omega arith) row_less

-- rows that stand behind one another have as many words as the last one needs
pub rows_there : (high wide s n : ℕ) → wide ≡ s → ((y : ℕ) → y < high → y * wide + s ≤ n) → high * s ≤ n
rows_there zero wide s n same words = omega arith
rows_there (suc high) wide s n same words = let last = words high (omega arith) in omega (arith, last, ap (λ (t : ℕ). high * t) same)

-- rows of as many words as are wanted
pub whole_rows : (high wide s : ℕ) (cells made : List ℕ) → wide ≡ s → made ≡ take (high * s) cells → (x y : ℕ) → x < 64 * s → y < high → bit_of made (y * (64 * s) + x) ≡ bit_of cells (y * (64 * wide) + x)
whole_rows high wide s cells made same made-is x y lt row_less =
    ap (λ (t : List ℕ). bit_of t (y * (64 * s) + x)) made-is
    ∙ bit_of_part cells 0 (high * s) (y * (64 * s) + x) (y * (64 * wide) + x) (omega (arith, rows_fit y high (64 * s) row_less)) (omega (arith, ap (λ (t : ℕ). y * (64 * t)) same))
