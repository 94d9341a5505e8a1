-- Rows of fewer than 64 samples, a word each.
use Rattle.std.proofs.Common.{◌≡◌, ℕ, zero, suc, ◌+◌, ◌-◌, ◌*◌, ◌/◌, ◌%◌, ◌^◌, ◌<◌, ◌≤◌, min, bit_and, List, [], ◌∷◌, length, map, drop, get_or, slice_range, refl, ap, sym, arith, ◌∙◌, inl, inr, length-take}
use Rattle.std.specs.Int.{bit_at}
use Rattle.std.proofs.lemmas.Bool.{cases_lt}
use Rattle.std.proofs.lemmas.List.{get_or-take, get_or-drop, get_or_past}
use Rattle.std.proofs.lemmas.Nat.Bits.{bit_at_and, bit_at_ones, bit_at_ones_above, bit_at-lt}
use Rattle.mw_offset.specs.mw_pixel_words.Packed.{bit_of, stride_of}
use Rattle.mw_offset.proofs.mw_pixel_words.Done.{BitRowsDone}
use Rattle.mw_bits_rows.proofs.Packs.{packed_row}

row_at : (cells : List ℕ) (from width i : ℕ) → i < width → get_or (slice_range cells from (from + width)) i 0 ≡ get_or cells (from + i) 0
row_at cells from width i inside = get_or-take (from + width - from) (drop from cells) i 0 (omega arith) ∙ get_or-drop from cells i 0

row_past : (cells : List ℕ) (from width i : ℕ) → width ≤ i → get_or (slice_range cells from (from + width)) i 0 ≡ 0
row_past cells from width i past = get_or_past (slice_range cells from (from + width)) i 0 (omega (arith, length-take (from + width - from) (drop from cells)))

-- the lowest bits of a word of the cells from a place on
pub row_masked : (cells : List ℕ) (word mask from width : ℕ) → mask ≡ 2 ^ width - 1 → ((i : ℕ) → i < 64 → bit_at word i ≡ get_or cells (from + i) 0)
    → (i : ℕ) → i < 64 → bit_at (bit_and word mask) i ≡ get_or (slice_range cells from (from + width)) i 0
row_masked cells word mask from width mask-is word-is i lt =
    bit_at_and word mask i
    ∙ ap (λ (t : ℕ). min (bit_at word i) (bit_at t i)) mask-is
    ∙ elim (cases_lt i width) [
      | inl inside ↦
          ap (min (bit_at word i)) (bit_at_ones width i inside)
          ∙ below_two (bit_at word i) (bit_at-lt word i)
          ∙ word-is i lt
          ∙ sym (row_at cells from width i inside)
      | inr past ↦
          ap (min (bit_at word i)) (bit_at_ones_above width i past)
          ∙ none (bit_at word i)
          ∙ sym (row_past cells from width i past)
    ]
  where
    below_two : (n : ℕ) → n < 2 → min n 1 ≡ n
    below_two n less = omega arith

    none : (n : ℕ) → min n 0 ≡ 0
    none n = omega arith

-- the cell of a bit of words that have a row each
abbrev pub narrow_cell : List ℕ → ℕ → ℕ → ℕ
narrow_cell cells width q = get_or (slice_range cells (q / 64 * width) (q / 64 * width + width)) (q % 64) 0

pub cell_of_word : (cells : List ℕ) (width y b : ℕ) → b < 64 → get_or (slice_range cells (y * width) (y * width + width)) b 0 ≡ narrow_cell cells width (64 * y + b)
cell_of_word cells width y b lt =
    let row : y ≡ (64 * y + b) / 64 = omega arith in
    let column : b ≡ (64 * y + b) % 64 = omega arith in
    ap (λ (t : ℕ). get_or (slice_range cells (t * width) (t * width + width)) b 0) row
    ∙ ap (λ (t : ℕ). get_or (slice_range cells ((64 * y + b) / 64 * width) ((64 * y + b) / 64 * width + width)) t 0) column

-- all rows are done
pub narrow_done : (w h : ℕ) (cells old out : List ℕ) → w < 64 → length old ≡ h * stride_of w → length out ≡ length old → ((q : ℕ) → q < 64 * length old → bit_of out q ≡ narrow_cell cells w q)
    → BitRowsDone (packed_row cells w) (stride_of w) h h old out
narrow_done w h cells old out narrow room size is = record {
  size = size;
  room = omega (arith, room, size);
  done = λ x j less row_less.
      let one : stride_of w ≡ 1 = omega arith in
      let rows = ap (λ (t : ℕ). h * t) one in
      let place : j * (64 * stride_of w) + x ≡ 64 * j + x = omega (arith, ap (λ (t : ℕ). j * (64 * t)) one) in
      ap (bit_of out) place ∙ is (64 * j + x) (omega (arith, room, rows)) ∙ sym (cell_of_word cells w j x (omega arith));
  rest = λ k from. get_or_past out k 0 (omega (arith, room, size)) ∙ sym (get_or_past old k 0 (omega (arith, room)));
}

-- what stands behind the cells of a row is not looked at
pub narrow_same : (cells other : List ℕ) (w q n : ℕ) → q / 64 * w + w ≤ n → ((i : ℕ) → i < n → get_or cells i 0 ≡ get_or other i 0) → narrow_cell cells w q ≡ narrow_cell other w q
narrow_same cells other w q n room same =
    let at = q / 64 * w in
    let b = q % 64 in
    elim (cases_lt b w) [
      | inl inside ↦ row_at cells at w b inside ∙ same (at + b) (omega arith) ∙ sym (row_at other at w b inside)
      | inr past ↦ row_past cells at w b past ∙ sym (row_past other at w b past)
    ]

-- the test of a level that was put in another list
pub level_tested : {A : Type 0} (test : ℕ → ℕ) (level : A → ℕ) (xs : List A) (i : ℕ) → i < length xs → test (get_or (map level xs) i 0) ≡ get_or (map (λ s. test (level s)) xs) i 0
level_tested test level [] i lt = absurd (omega arith)
level_tested test level (x ∷ xs) zero lt = refl
level_tested test level (x ∷ xs) (suc i) lt = level_tested test level xs i (omega arith)
