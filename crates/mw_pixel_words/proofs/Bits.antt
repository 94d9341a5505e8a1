-- Bits of lists of words.
use Rattle.std.proofs.Common.{◌≡◌, ℕ, ◌+◌, ◌*◌, ◌/◌, ◌%◌, ◌<◌, ◌≤◌, List, length, take, drop, get_or, ap, sym, arith, ◌∙◌, inl, inr, length-take}
use Rattle.std.specs.Int.{bit_at}
use Rattle.std.specs.Prelude.{All}
use Rattle.std.proofs.Math.Nat.{mul-le-mul_left}
use Rattle.std.proofs.lemmas.Bool.{cases_lt}
use Rattle.std.proofs.lemmas.List.{get_or-take, get_or-drop, get_or_past}
use Rattle.std.proofs.lemmas.List.FromFn.{get_or-map-range_with_len, fill_by_all, length-map-range_with_len}
use Rattle.std.proofs.lemmas.Nat.{mul-add-lt, div-mul-add, mod-mul-add, div_below, div-add-mod', mod_below}
use Rattle.std.proofs.lemmas.Nat.Bits.{bit_at-zero, bit_at-lt}
use Rattle.mw_model.proofs.mw_facts.Numbers.{factor-positive}
use Rattle.mw_pixel_words.specs.Packed.{bit_of, stride_of, samples_of, IsPacked}

pub rows_fit : (y h w : ℕ) → y < h → y * w + w ≤ h * w
rows_fit y h w lt = let le : y + 1 ≤ h = omega arith in omega (arith, mul-le-mul_left w le)

pub bit_of_word : (words : List ℕ) (k i q : ℕ) → i < 64 → q ≡ 64 * k + i → bit_of words q ≡ bit_at (get_or words k 0) i
unfolding bit_of
bit_of_word words k i q lt q-is =
    let word : q / 64 ≡ k = omega arith in
    let place : q % 64 ≡ i = omega arith in
    ap (λ (t : ℕ). bit_at (get_or words t 0) (q % 64)) word ∙ ap (bit_at (get_or words k 0)) place

-- a bit as that of its word
pub bit_of_its_word : (words : List ℕ) (q : ℕ) → bit_of words q ≡ bit_at (get_or words (q / 64) 0) (q % 64)
bit_of_its_word words q = bit_of_word words (q / 64) (q % 64) q (omega arith) (omega arith)

pub bit_of-lt : (words : List ℕ) (q : ℕ) → bit_of words q < 2
unfolding bit_of
bit_of-lt words q = bit_at-lt (get_or words (q / 64) 0) (q % 64)

pub bit_of_past : (words : List ℕ) (q : ℕ) → 64 * length words ≤ q → bit_of words q ≡ 0
bit_of_past words q past =
    let le : length words ≤ q / 64 = omega arith in
    bit_of_its_word words q ∙ ap (λ (t : ℕ). bit_at t (q % 64)) (get_or_past words (q / 64) 0 le) ∙ bit_at-zero (q % 64)

-- a bit of a part
pub bit_of_part : (words : List ℕ) (a m x q : ℕ) → x < 64 * m → q ≡ 64 * a + x → bit_of (take m (drop a words)) x ≡ bit_of words q
bit_of_part words a m x q lt q-is =
    let inside : x / 64 < m = omega arith in
    bit_of_its_word (take m (drop a words)) x
    ∙ ap (λ (t : ℕ). bit_at t (x % 64)) (get_or-take m (drop a words) (x / 64) 0 inside ∙ get_or-drop a words (x / 64) 0)
    ∙ sym (bit_of_word words (a + x / 64) (x % 64) q (omega arith) (omega arith))

-- the sample in column x of row y
pub sample_is_bit : (width height : ℕ) (words : List ℕ) (x y : ℕ) → x < width → y < height → get_or (samples_of width height words) (y * width + x) 0 ≡ bit_of words (y * (64 * stride_of width) + x)
unfolding samples_of
sample_is_bit width height words x y lt row_lt =
    let stride = 64 * stride_of width in
    get_or-map-range_with_len (λ (i : ℕ). bit_of words (i / width * stride + i % width)) 0 (height * width) (y * width + x) (y * width + x) 0 (omega (arith, mul-add-lt y width x height row_lt lt)) (omega arith)
    ∙ ap (λ (t : ℕ). bit_of words (t * stride + (y * width + x) % width)) (div-mul-add y width x lt)
    ∙ ap (λ (t : ℕ). bit_of words (y * stride + t)) (mod-mul-add y width x lt)

pub length-samples_of : (width height : ℕ) (words : List ℕ) → length (samples_of width height words) ≡ height * width
unfolding samples_of
length-samples_of width height words = length-map-range_with_len (λ (i : ℕ). bit_of words (i / width * (64 * stride_of width) + i % width)) 0 (height * width)

-- no sample of a set is over 1
pub samples_small : (width height : ℕ) (words cells : List ℕ) → cells ≡ samples_of width height words → All (λ s. s ≤ 1) cells
unfolding samples_of
samples_small width height words cells cells-is k d lt =
    let inside : k < height * width = omega (arith, ap length cells-is, length-samples_of width height words) in
    let place = k / width * (64 * stride_of width) + k % width in
    let is : get_or cells k d ≡ bit_of words place =
    ap (λ (t : List ℕ). get_or t k d) cells-is ∙ get_or-map-range_with_len (λ (i : ℕ). bit_of words (i / width * (64 * stride_of width) + i % width)) 0 (height * width) k k d inside (omega arith) in
    omega (arith, is, bit_of-lt words place)

-- samples that are the bits, place by place
pub samples_are_bits : (width height : ℕ) (words cells : List ℕ) → length cells ≡ height * width
    → ((x y : ℕ) → x < width → y < height → get_or cells (y * width + x) 0 ≡ bit_of words (y * (64 * stride_of width) + x)) → cells ≡ samples_of width height words
unfolding samples_of
samples_are_bits width height words cells size same =
    fill_by_all (λ (i : ℕ). bit_of words (i / width * (64 * stride_of width) + i % width)) cells (height * width) 0 size
    (λ k lt.
    let some = factor-positive k height width lt in
    let split : k ≡ k / width * width + k % width = sym (div-add-mod' k width) in
    ap (λ (t : ℕ). get_or cells t 0) split ∙ same (k % width) (k / width) (mod_below k width some) (div_below k width height some lt))

stride_is : (y width stride : ℕ) → stride ≡ stride_of width → (x : ℕ) → y * (64 * stride_of width) + x ≡ 64 * (y * stride) + x
stride_is y width stride is x = let same = ap (λ (t : ℕ). y * t) is in omega (arith, same)

-- the samples of a row
pub row_sample : (width height stride m : ℕ) (words cells : List ℕ) (y x : ℕ) → stride ≡ stride_of width → m ≡ stride → cells ≡ samples_of width height words → x < width → y < height
    → bit_of (take m (drop (y * stride) words)) x ≡ get_or cells (y * width + x) 0
row_sample width height stride m words cells y x stride-is m-is cells-is lt row_lt =
    bit_of_part words (y * stride) m x (y * (64 * stride_of width) + x) (omega arith) (stride_is y width stride stride-is x)
    ∙ sym (sample_is_bit width height words x y lt row_lt)
    ∙ ap (λ (t : List ℕ). get_or t (y * width + x) 0) (sym cells-is)

pub row_clean : (width height stride m : ℕ) (words : List ℕ) (y x : ℕ) → stride ≡ stride_of width → m ≡ stride → IsPacked width height words → width ≤ x → y < height → bit_of (take m (drop (y * stride) words)) x ≡ 0
row_clean width height stride m words y x stride-is m-is packed past row_lt =
    elim (cases_lt x (64 * m)) [
      | inl inside ↦
          bit_of_part words (y * stride) m x (y * (64 * stride_of width) + x) inside (stride_is y width stride stride-is x) ∙ packed.clean x y row_lt past (omega arith)
      | inr out ↦ bit_of_past (take m (drop (y * stride) words)) x (omega (arith, length-take m (drop (y * stride) words)))
    ]
