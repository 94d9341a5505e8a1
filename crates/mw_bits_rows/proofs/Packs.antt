-- Pixels that are packed and unpacked.
use Rattle.std.proofs.Common.{◌≡◌, ℕ, zero, suc, ◌+◌, ◌-◌, ◌*◌, ◌/◌, ◌%◌, ◌^◌, ◌<◌, ◌≤◌, min, List, length, take, drop, get_or, map, replicate, slice_range, cond, not, eqb, false, bit_and, ap, sym, arith, ◌∙◌, inl, inr, length-take}
use Rattle.std.specs.Int.{bit_at, w8}
use Rattle.std.proofs.lemmas.Bool.{cases_lt}
use Rattle.std.proofs.lemmas.Bool.Decides.{nat_tests}
use Rattle.std.proofs.lemmas.Grind.{same_number_lists}
use Rattle.std.proofs.lemmas.List.{take_all, get_or-take, get_or-drop, get_or_past, get_or-map}
use Rattle.std.proofs.lemmas.Nat.{shr-shr, one_shl, pow_pos, div-add-mod', div_below, mod_below}
use Rattle.std.proofs.lemmas.Nat.Bits.{bit_at_and, bit_at_ones, bit_at-lt, and_pow}
use Rattle.std.proofs.lemmas.Simd.{bitmask_splat, bit_mask_l, get_or-replicate}
use Rattle.mw_model.proofs.mw_facts.Parts.{get_or-put_mid_below as put_mid_below, get_or-put_mid_within as put_mid_at, get_or-put_mid_above as put_mid_above}
use Rattle.mw_model.proofs.mw_facts.Numbers.{one_if-not_zero, factor-positive}
use Rattle.mw_line.proofs.Rows.{RowsMade}
use Rattle.mw_line.specs.mw_pixel_words.Packed.{stride_of, samples_of, IsPacked}
use Rattle.mw_line.proofs.mw_pixel_words.Bits.{samples_are_bits}
use Rattle.mw_line.proofs.mw_pixel_words.Done.{BitRowsDone}
use borrow.Rule.Slice.PartMut.{put_mid}
use lib.Lanes.{zip2, mask_l, top}

-- the mask of 64 bytes that are 0 or 1
pub mask_bit : (bytes : List ℕ) (i : ℕ) → length bytes ≡ 64 → i < 64 → get_or bytes i 0 ≤ 1
    → bit_at (mask_l (map (top 7) (zip2 (λ (a b : ℕ). cond (not (eqb a b)) 255 0) (take 64 bytes) (replicate 64 0))) % 2 ^ 64) i ≡ get_or bytes i 0
mask_bit bytes i size lt small =
    ap (λ (t : List ℕ). bit_at (mask_l (map (top 7) (zip2 (λ (a b : ℕ). cond (not (eqb a b)) 255 0) t (replicate 64 0))) % 2 ^ 64) i) (take_all 64 bytes (omega arith))
    ∙ ap (λ (t : ℕ). bit_at t i) (bitmask_splat w8 (λ (a b : ℕ). not (eqb a b)) bytes 64 0 size (omega arith))
    ∙ bit_mask_l (map (λ (a : ℕ). not (eqb a 0)) bytes) i
    ∙ ap (λ (t : _). cond t 1 0) (get_or-map (λ (a : ℕ). not (eqb a 0)) bytes i 0 false (omega arith))
    ∙ one_if-not_zero (get_or bytes i 0) small

-- a bit of a byte of a word
pub bit_of_byte : (word j b : ℕ) → b < 8 → bit_at (bit_and (word / 2 ^ (8 * j)) 255) b ≡ bit_at word (8 * j + b)
bit_of_byte word j b lt =
    bit_at_and (word / 2 ^ (8 * j)) 255 b
    ∙ ap (min (bit_at (word / 2 ^ (8 * j)) b)) (bit_at_ones 8 b lt)
    ∙ below_two (bit_at (word / 2 ^ (8 * j)) b) (bit_at-lt (word / 2 ^ (8 * j)) b)
    ∙ ap (λ (t : ℕ). t % 2) (shr-shr word (8 * j) b)
  where
    below_two : (n : ℕ) → n < 2 → min n 1 ≡ n
    below_two n less = omega arith

-- the test of a bit
pub bit_tested : (byte i : ℕ) → i < 8 → cond (not (eqb (bit_and byte (1 * 2 ^ i % 2 ^ 8)) 0)) 1 0 ≡ bit_at byte i
bit_tested byte i lt =
    ap (λ (t : ℕ). cond (not (eqb (bit_and byte t) 0)) 1 0) (one_shl i 8 lt)
    ∙ ap (λ (t : ℕ). cond (not (eqb t 0)) 1 0) (and_pow byte i)
    ∙ by_bit (bit_at byte i) (2 ^ i) (bit_at-lt byte i) (pow_pos i)
  where
    by_bit : (b p : ℕ) → b < 2 → 0 < p → cond (not (eqb (b * p) 0)) 1 0 ≡ b
    by_bit zero p less some = grind (arith, nat_tests)
    by_bit (suc zero) p less some = grind (arith, nat_tests)
    by_bit (suc (suc b)) p less some = absurd (omega arith)

-- one part more of a list that has the values of f
pub parts_more : (f : ℕ → ℕ) (a n m : ℕ) (out made : List ℕ) → a + n ≤ length out → m ≡ n → length made ≡ n → ((x : ℕ) → x < a → get_or out x 0 ≡ f x) → ((x : ℕ) → x < n → get_or made x 0 ≡ f (a + x))
    → (x : ℕ) → x < a + n → get_or (put_mid a m out made) x 0 ≡ f x
parts_more f a n m out made room m-is len before here x lt =
    elim (cases_lt x a) [
      | inl earlier ↦ put_mid_below a m out made x 0 (omega arith) earlier ∙ before x earlier
      | inr from ↦
          let back : a + (x - a) ≡ x = omega arith in
          put_mid_at a m out made x 0 (omega arith) from (omega arith) ∙ here (x - a) (omega arith) ∙ ap f back
    ]

-- a sample of a row
row_at : (cells : List ℕ) (y w x : ℕ) → x < w → get_or (slice_range cells (y * w) (y * w + w)) x 0 ≡ get_or cells (y * w + x) 0
row_at cells y w x lt = get_or-take (y * w + w - y * w) (drop (y * w) cells) x 0 (omega arith) ∙ get_or-drop (y * w) cells x 0

row_past : (cells : List ℕ) (y w x : ℕ) → w ≤ x → get_or (slice_range cells (y * w) (y * w + w)) x 0 ≡ 0
row_past cells y w x past = get_or_past (slice_range cells (y * w) (y * w + w)) x 0 (omega (arith, length-take (y * w + w - y * w) (drop (y * w) cells)))

-- rows that were packed
abbrev pub packed_row : List ℕ → ℕ → ℕ → ℕ → ℕ → ℕ
packed_row cells w old x j = get_or (slice_range cells (j * w) (j * w + w)) x 0

pub all_packed : (w h y : ℕ) (cells old out : List ℕ) → length out ≡ h * stride_of w → h ≤ y → BitRowsDone (packed_row cells w) (stride_of w) h y old out → IsPacked w h out
all_packed w h y cells old out size whole done = record {
  size = size;
  clean = λ x j row_less past less. done.done x j less (omega arith) ∙ row_past cells j w x past;
}

pub stride_wide : (w x : ℕ) → x < w → x < 64 * stride_of w
stride_wide w x lt = omega arith

pub samples_packed : (w h y : ℕ) (cells old out : List ℕ) → length cells ≡ h * w → h ≤ y → BitRowsDone (packed_row cells w) (stride_of w) h y old out → samples_of w h out ≡ cells
samples_packed w h y cells old out size whole done =
    sym (samples_are_bits w h out cells size (λ x j less row_less. sym (done.done x j (stride_wide w x less) (omega arith) ∙ row_at cells j w x less)))

-- rows that were unpacked
pub rows_are : (w h y : ℕ) (cells made : List ℕ) → length cells ≡ h * w → y ≡ h → RowsMade (λ x j. get_or cells (j * w + x) 0) 0 w y made → made ≡ cells
rows_are w h y cells made size whole rows =
    let rows_size = rows.size in
    let same = ap (λ (t : ℕ). t * w) whole in
    same_number_lists made cells (omega (arith, rows_size, same))
    (λ k lt.
    let few : k < h * w = omega (arith, rows_size, same) in
    let some = factor-positive k h w few in
    let split : k ≡ k / w * w + k % w = sym (div-add-mod' k w) in
    ap (λ (t : ℕ). get_or made t 0) split ∙ rows.done (k % w) (k / w) (mod_below k w some) (omega (arith, div_below k w h some few)) ∙ ap (λ (t : ℕ). get_or cells t 0) (sym split))

-- pixels in the front of a blank block
pub rest_of_block : (blank : ℕ) (pixels made : List ℕ) (m i : ℕ) → blank ≡ 0 → length pixels ≤ 64 → made ≡ pixels → m ≡ length pixels → i < 64 → get_or (put_mid 0 m (replicate 64 blank) made) i 0 ≡ get_or pixels i 0
rest_of_block blank pixels made m i blank-is short made-is m-is lt =
    let same = ap length made-is in
    elim (cases_lt i (length pixels)) [
      | inl inside ↦
          let here : i - 0 ≡ i = omega arith in
          put_mid_at 0 m (replicate 64 blank) made i 0 (omega arith) (omega arith) (omega arith) ∙ ap (λ (t : ℕ). get_or made t 0) here ∙ ap (λ (t : List ℕ). get_or t i 0) made-is
      | inr past ↦
          put_mid_above 0 m (replicate 64 blank) made i 0 (omega arith) (omega arith) (omega arith) ∙ get_or-replicate 64 i blank 0 lt ∙ blank-is ∙ sym (get_or_past pixels i 0 past)
    ]
