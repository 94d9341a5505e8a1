-- Rows that go on with neutral pixels on both sides.
use Rattle.std.proofs.Common.{◌≡◌, ◌⊎◌, ℕ, ◌+◌, ◌-◌, ◌*◌, ◌%◌, ◌^◌, ◌<◌, ◌≤◌, ℤ, pos, negsuc, ◌-ℤ◌, ◌≤ℤ◌, ◌<ℤ◌, max, bit_or, List, length, get_or, Some, None, refl, ap, sym, arith, ◌∙◌, inl, inr}
use Rattle.std.specs.Int.{bit_at}
use Rattle.std.proofs.lemmas.Bool.{cases_lt, lt-ltb, le-ltb}
use Rattle.std.proofs.lemmas.Int.{ints}
use Rattle.std.proofs.lemmas.Nat.Bits.{bit_at_or}
use Rattle.std.proofs.lemmas.Option.{slice_get-get_or}
use Rattle.mw_model.specs.Rasters.{raster, cell_at}
use Rattle.mw_line.specs.mw_lane.Shifted.{merge_at}
use Rattle.mw_line.proofs.Rows.{rows_fit}
use Rattle.mw_line.specs.mw_pixel_words.Packed.{bit_of}
use Rattle.mw_bits_rows.specs.Rows.{pixel_at, words_before}
use Rattle.mw_line.proofs.mw_pixel_words.Bits.{bit_of_word, bit_of-lt}
use Rattle.mw_line.proofs.mw_pixel_words.Funnels.{shl_low, shl_high, IsFunnel}

-- n changes no bit
pub record IsNeutral (f : ℕ → ℕ → ℕ) (n : ℕ) : Type 0 where
  pub commutes : (a b : ℕ) → f a b ≡ f b a
  pub changes_none : (s : ℕ) → s ≤ 1 → f n s ≡ s

pub pixel_inside : (row : List ℕ) (width x : ℕ) → x < width → pixel_at row width (pos x) ≡ Some (bit_of row x)
pixel_inside row width x lt = rw (lt-ltb x width lt) refl

pub pixel_outside : (row : List ℕ) (width : ℕ) (z : ℤ) → (z <ℤ pos 0) ⊎ (pos width ≤ℤ z) → pixel_at row width z ≡ None
pixel_outside row width (negsuc x) out = refl
pixel_outside row width (pos x) (inl before) = absurd (omega (arith, ints))
pixel_outside row width (pos x) (inr behind) = let le : width ≤ x = omega (arith, ints) in rw (le-ltb x width le) refl

-- what stands at a place of the padded row
abbrev pub padded_at : (ℕ → ℕ → ℕ) → ℕ → List ℕ → ℕ → ℤ → ℕ
padded_at f n row width z = merge_at f n (pixel_at row width z)

pub padded_inside : (f : ℕ → ℕ → ℕ) (n : ℕ) → IsNeutral f n → (row : List ℕ) (width x : ℕ) (z : ℤ) → z ≡ pos x → x < width → padded_at f n row width z ≡ bit_of row x
padded_inside f n laws row width x z z-is lt =
    let small = bit_of-lt row x in
    ap (padded_at f n row width) z-is ∙ ap (merge_at f n) (pixel_inside row width x lt) ∙ laws.changes_none (bit_of row x) (omega arith)

pub padded_outside : (f : ℕ → ℕ → ℕ) (n : ℕ) (row : List ℕ) (width : ℕ) (z : ℤ) → (z <ℤ pos 0) ⊎ (pos width ≤ℤ z) → padded_at f n row width z ≡ n
padded_outside f n row width z out = ap (merge_at f n) (pixel_outside row width z out)

-- to merge with the padded row is to merge with the row
pub merge_padded : (f : ℕ → ℕ → ℕ) (n : ℕ) → IsNeutral f n → (row : List ℕ) (width best : ℕ) (z : ℤ) → best ≤ 1 → f best (padded_at f n row width z) ≡ merge_at f best (pixel_at row width z)
merge_padded f n laws row width best (negsuc x) small = laws.commutes best n ∙ laws.changes_none best small
merge_padded f n laws row width best (pos x) small = elim (cases_lt x width) [
  | inl inside ↦
      let less = bit_of-lt row x in
      rw (lt-ltb x width inside) (ap (f best) (laws.changes_none (bit_of row x) (omega arith)))
  | inr past ↦ rw (le-ltb x width past) (laws.commutes best n ∙ laws.changes_none best small)
]

-- a word of the row
pub word_inside : (f : ℕ → ℕ → ℕ) (n : ℕ) → IsNeutral f n → (row : List ℕ) (width at k : ℕ) → at ≡ words_before + k → 64 * k + 64 ≤ width → (i : ℕ) → i < 64
    → bit_at (get_or row k 0) i ≡ padded_at f n row width (pos (64 * at + i) -ℤ pos (64 * words_before))
word_inside f n laws row width at k at-is room i lt =
    let place : pos (64 * at + i) -ℤ pos (64 * words_before) ≡ pos (64 * k + i) = omega (arith, ints) in
    sym (bit_of_word row k i (64 * k + i) lt refl) ∙ sym (padded_inside f n laws row width (64 * k + i) (pos (64 * at + i) -ℤ pos (64 * words_before)) place (omega arith))

-- the last word of the row
pub word_at_end : (f : ℕ → ℕ → ℕ) (n : ℕ) → IsNeutral f n → (row : List ℕ) (width at k kept neutral : ℕ) → ((i : ℕ) → i < 64 → bit_at neutral i ≡ n) → ((x : ℕ) → width ≤ x → bit_of row x ≡ 0)
    → at ≡ words_before + k → kept + 64 * k ≡ width → (i : ℕ) → i < 64
    → bit_at (bit_or (get_or row k 0) (neutral * 2 ^ kept % 2 ^ 64)) i ≡ padded_at f n row width (pos (64 * at + i) -ℤ pos (64 * words_before))
word_at_end f n laws row width at k kept neutral neutral-is clean at-is kept-is i lt =
    let place : pos (64 * at + i) -ℤ pos (64 * words_before) ≡ pos (64 * k + i) = omega (arith, ints) in
    let here = bit_of_word row k i (64 * k + i) lt refl in
    bit_at_or (get_or row k 0) (neutral * 2 ^ kept % 2 ^ 64) i
    ∙ elim (cases_lt i kept) [
      | inl inside ↦
          ap (max (bit_at (get_or row k 0) i)) (shl_low neutral kept i inside lt)
          ∙ alone (bit_at (get_or row k 0) i)
          ∙ sym here
          ∙ sym (padded_inside f n laws row width (64 * k + i) (pos (64 * at + i) -ℤ pos (64 * words_before)) place (omega arith))
      | inr past ↦
          ap (max (bit_at (get_or row k 0) i)) (shl_high neutral kept i past lt ∙ neutral-is (i - kept) (omega arith))
          ∙ ap (λ (t : ℕ). max t n) (sym here ∙ clean (64 * k + i) (omega arith))
          ∙ none n
          ∙ sym (padded_outside f n row width (pos (64 * at + i) -ℤ pos (64 * words_before)) (inr (omega (arith, ints))))
    ]
  where
    alone : (b : ℕ) → max b 0 ≡ b
    alone b = omega arith

    none : (b : ℕ) → max 0 b ≡ b
    none b = omega arith

-- 64 bits of two words of the padded row
pub funnel_padded : (value : ℤ → ℕ) (low high shift word at : ℕ) → shift < 64 → IsFunnel low high shift word
    → ((i : ℕ) → i < 64 → bit_at low i ≡ value (pos (64 * at + i) -ℤ pos (64 * words_before))) → ((i : ℕ) → i < 64 → bit_at high i ≡ value (pos (64 * (at + 1) + i) -ℤ pos (64 * words_before)))
    → (b : ℕ) → b < 64 → bit_at word b ≡ value (pos (64 * at + shift + b) -ℤ pos (64 * words_before))
funnel_padded value low high shift word at small funnel low-is high-is b lt =
    elim (cases_lt (shift + b) 64) [
      | inl below ↦
          let place : pos (64 * at + (shift + b)) -ℤ pos (64 * words_before) ≡ pos (64 * at + shift + b) -ℤ pos (64 * words_before) = omega (arith, ints) in
          funnel.below b below ∙ low-is (shift + b) below ∙ ap value place
      | inr above ↦
          let place : pos (64 * (at + 1) + (shift + b - 64)) -ℤ pos (64 * words_before) ≡ pos (64 * at + shift + b) -ℤ pos (64 * words_before) = omega (arith, ints) in
          funnel.above b lt above ∙ high-is (shift + b - 64) (omega arith) ∙ ap value place
    ]

-- a row of the set, place by place
pub row_shows : (width height y : ℕ) (row cells : List ℕ) → length cells ≡ height * width → y < height → ((x : ℕ) → x < width → bit_of row x ≡ get_or cells (y * width + x) 0)
    → (z : ℤ) → pixel_at row width z ≡ cell_at (raster width height cells) z (pos y)
row_shows width height y row cells size lt same (negsuc x) = refl
row_shows width height y row cells size lt same (pos x) = elim (cases_lt x width) [
  | inl inside ↦
      let fits = rows_fit y height width lt in
      rw (lt-ltb x width inside, lt-ltb y height lt) (ap Some (same x inside) ∙ sym (slice_get-get_or cells (y * width + x) 0 (omega (arith, size, fits))))
  | inr past ↦ rw (le-ltb x width past) refl
]
