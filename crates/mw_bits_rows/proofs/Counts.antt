-- How many bits are set.
use Rattle.std.proofs.Common.{◌≡◌, ℕ, zero, suc, ◌+◌, ◌-◌, ◌*◌, ◌/◌, ◌%◌, ◌^◌, ◌<◌, ◌≤◌, List, length, take, drop, get_or, map, sum, refl, ap, sym, arith, ◌∙◌, length-drop, add-zero, zero-add}
use Rattle.std.specs.Int.{bit_at}
use Rattle.std.specs.List.{range_with_len}
use Rattle.std.proofs.Math.Seq.{take-add}
use Rattle.std.proofs.lemmas.List.{take_all, take_more, get_or-drop}
use Rattle.std.proofs.lemmas.List.Sums.{sum_by-append, sum_by-cons, sum_by_push}
use Rattle.std.proofs.lemmas.Nat.{ones_cat, div-mul-add, mod-mul-add}
use Rattle.std.proofs.lemmas.Nat.Bits.{bit_at_lowest, bit_at-suc}
use Rattle.mw_model.proofs.mw_facts.Numbers.{add_one-add}
use Rattle.mw_line.proofs.Rows.{rows_fit}
use Rattle.mw_line.specs.mw_pixel_words.Packed.{bit_of, stride_of, samples_of, IsPacked}
use Rattle.mw_bits_rows.specs.Rows.{bits_in}
use Rattle.mw_line.proofs.mw_pixel_words.Bits.{bit_of_word}
use lib.Count.{ones}

-- the sum of f at the n places from a on
abbrev pub over_range : (ℕ → ℕ) → ℕ → ℕ → ℕ
over_range f a n = sum (map f (range_with_len a n))

over_first : (f : ℕ → ℕ) (a n : ℕ) → over_range f a (suc n) ≡ f a + over_range f (a + 1) n
over_first f a n = sum_by-cons (λ x. x) (f a) (map f (range_with_len (a + 1) n))

-- values that are equal place by place
over_same : (f g : ℕ → ℕ) (a b n : ℕ) → ((i : ℕ) → i < n → f (a + i) ≡ g (b + i)) → over_range f a n ≡ over_range g b n
over_same f g a b zero same = refl
over_same f g a b (suc n) same =
    let first : f a ≡ g b = ap f (sym (add-zero a)) ∙ same 0 (omega arith) ∙ ap g (add-zero b) in
    let rest = over_same f g (a + 1) (b + 1) n (λ i lt. ap f (next a i) ∙ same (i + 1) (omega arith) ∙ ap g (sym (next b i))) in
    over_first f a n ∙ ap (λ (t : ℕ). t + over_range f (a + 1) n) first ∙ ap (λ (t : ℕ). g b + t) rest ∙ sym (over_first g b n)
  where
    next : (a i : ℕ) → a + 1 + i ≡ a + (i + 1)
    next a i = omega arith

over_none : (f : ℕ → ℕ) (a n : ℕ) → ((i : ℕ) → a ≤ i → i < a + n → f i ≡ 0) → over_range f a n ≡ 0
over_none f a zero none = refl
over_none f a (suc n) none = let here = none a (omega arith) (omega arith) in let rest = over_none f (a + 1) n (λ i from to. none i (omega arith) (omega arith)) in let e = over_first f a n in omega arith

over_parts : (f : ℕ → ℕ) (a m n : ℕ) → over_range f a (m + n) ≡ over_range f a m + over_range f (a + m) n
over_parts f a zero n = ap (over_range f a) (zero-add n) ∙ ap (λ (t : ℕ). over_range f t n) (sym (add-zero a)) ∙ sym (zero-add (over_range f (a + 0) n))
over_parts f a (suc m) n =
    ap (over_range f a) (up m n)
    ∙ over_first f a (m + n)
    ∙ ap (λ (t : ℕ). f a + t) (over_parts f (a + 1) m n)
    ∙ regroup (f a) (over_range f (a + 1) m) (over_range f (a + 1 + m) n)
    ∙ ap (λ (t : ℕ). t + over_range f (a + 1 + m) n) (sym (over_first f a m))
    ∙ ap (λ (t : ℕ). over_range f a (suc m) + over_range f t n) (add_one-add a m)
  where
    up : (m n : ℕ) → suc m + n ≡ suc (m + n)
    up m n = omega arith

    regroup : (a b c : ℕ) → a + (b + c) ≡ a + b + c
    regroup a b c = omega arith

-- the set bits of a number, one by one
ones_by_bits : (k n : ℕ) → n < 2 ^ k → ones n ≡ over_range (bit_at n) 0 k
unfolding ones
ones_by_bits zero n few = let none : n ≡ 0 = omega arith in ap ones none
ones_by_bits (suc k) n few =
    let split : n ≡ n / 2 * 2 ^ 1 + n % 2 = omega arith in
    let half : n / 2 < 2 ^ k = omega arith in
    ap ones split
    ∙ ones_cat 1 (n / 2) (n % 2) (omega arith)
    ∙ ap (λ (t : ℕ). t + ones (n % 2)) (ones_by_bits k (n / 2) half)
    ∙ ap (λ (t : ℕ). over_range (bit_at (n / 2)) 0 k + t) (lowest (n % 2) (omega arith) ∙ sym (bit_at_lowest n))
    ∙ ap (λ (t : ℕ). t + bit_at n 0) (over_same (bit_at (n / 2)) (bit_at n) 0 1 k (λ i lt. ap (bit_at (n / 2)) (zero-add i) ∙ sym (bit_at-suc n i) ∙ ap (bit_at n) (up i)))
    ∙ turn (over_range (bit_at n) 1 k) (bit_at n 0)
    ∙ sym (over_first (bit_at n) 0 k)
  where
    lowest : (b : ℕ) → b < 2 → ones b ≡ b
    lowest zero less = refl
    lowest (suc zero) less = refl
    lowest (suc (suc b)) less = absurd (omega arith)

    up : (i : ℕ) → suc i ≡ 1 + i
    up i = omega arith

    turn : (a b : ℕ) → a + b ≡ b + a
    turn a b = omega arith

-- the set bits of a part of the words
bits_in_part : (words : List ℕ) → ((k : ℕ) → get_or words k 0 < 2 ^ 64) → (a m : ℕ) → a + m ≤ length words → bits_in (take m (drop a words)) ≡ over_range (bit_of words) (64 * a) (64 * m)
bits_in_part words fits a zero room = refl
bits_in_part words fits a (suc m) room =
    let before = bits_in_part words fits a m (omega arith) in
    let up : suc m ≡ m + 1 = omega arith in
    let wide : 64 * suc m ≡ 64 * m + 64 = omega arith in
    let place : 64 * a + 64 * m ≡ 64 * (a + m) = omega arith in
    ap (λ (t : ℕ). bits_in (take t (drop a words))) up
    ∙ ap bits_in (take_more (drop a words) m 0 (omega (arith, length-drop a words)))
    ∙ sum_by_push ones (take m (drop a words)) (get_or (drop a words) m 0)
    ∙ ap (λ (t : ℕ). t + ones (get_or (drop a words) m 0)) before
    ∙ ap (λ (t : ℕ). over_range (bit_of words) (64 * a) (64 * m) + t)
    (ap ones (get_or-drop a words m 0)
    ∙ ones_by_bits 64 (get_or words (a + m) 0) (fits (a + m))
    ∙ over_same (bit_at (get_or words (a + m) 0)) (bit_of words) 0 (64 * a + 64 * m) 64 (λ i lt. ap (bit_at (get_or words (a + m) 0)) (zero-add i) ∙ sym (bit_of_word words (a + m) i (64 * a + 64 * m + i) lt (omega arith))))
    ∙ sym (over_parts (bit_of words) (64 * a) (64 * m) 64)
    ∙ ap (over_range (bit_of words) (64 * a)) (sym wide)

-- the sample at a place
abbrev sample_at : ℕ → List ℕ → ℕ → ℕ
sample_at width words i = bit_of words (i / width * (64 * stride_of width) + i % width)

-- the samples of row y
row_sum : (width height y : ℕ) (words : List ℕ) → ((k : ℕ) → get_or words k 0 < 2 ^ 64) → IsPacked width height words → y < height
    → over_range (sample_at width words) (y * width) width ≡ bits_in (take (stride_of width) (drop (y * stride_of width) words))
row_sum width height y words fits packed lt =
    let s = stride_of width in
    let room = rows_fit y height s lt in
    let size = packed.size in
    let start : y * (64 * s) ≡ 64 * (y * s) = omega arith in
    let whole : width + (64 * s - width) ≡ 64 * s = omega arith in
    over_same (sample_at width words) (bit_of words) (y * width) (y * (64 * s)) width
    (λ i less. ap (λ (t : ℕ). bit_of words (t * (64 * s) + (y * width + i) % width)) (div-mul-add y width i less) ∙ ap (λ (t : ℕ). bit_of words (y * (64 * s) + t)) (mod-mul-add y width i less))
    ∙ more (over_range (bit_of words) (y * (64 * s)) width) (over_range (bit_of words) (y * (64 * s) + width) (64 * s - width))
    (over_none (bit_of words) (y * (64 * s) + width) (64 * s - width) (λ i from to.
    let x = i - y * (64 * s) in
    let back : y * (64 * s) + x ≡ i = omega arith in
    ap (bit_of words) (sym back) ∙ packed.clean x y lt (omega arith) (omega arith)))
    ∙ sym (over_parts (bit_of words) (y * (64 * s)) width (64 * s - width))
    ∙ ap (over_range (bit_of words) (y * (64 * s))) whole
    ∙ ap (λ (t : ℕ). over_range (bit_of words) t (64 * s)) start
    ∙ sym (bits_in_part words fits (y * s) s (omega arith))
  where
    more : (n z : ℕ) → z ≡ 0 → n ≡ n + z
    more n z none = omega arith

-- the samples of the rows above y
rows_sum : (width height y : ℕ) (words : List ℕ) → ((k : ℕ) → get_or words k 0 < 2 ^ 64) → IsPacked width height words → y ≤ height
    → over_range (sample_at width words) 0 (y * width) ≡ bits_in (take (y * stride_of width) words)
rows_sum width height zero words fits packed le =
    ap (over_range (sample_at width words) 0) (none width) ∙ ap (λ (t : ℕ). bits_in (take t words)) (sym (none (stride_of width)))
  where
    none : (w : ℕ) → 0 * w ≡ 0
    none w = omega arith
rows_sum width height (suc y) words fits packed le =
    let s = stride_of width in
    let wide : suc y * width ≡ y * width + width = omega arith in
    let words_wide : suc y * s ≡ y * s + s = omega arith in
    let front : 0 + y * width ≡ y * width = omega arith in
    ap (over_range (sample_at width words) 0) wide
    ∙ over_parts (sample_at width words) 0 (y * width) width
    ∙ ap (λ (t : ℕ). t + over_range (sample_at width words) (0 + y * width) width) (rows_sum width height y words fits packed (omega arith))
    ∙ ap (λ (t : ℕ). bits_in (take (y * s) words) + t) (ap (λ (t : ℕ). over_range (sample_at width words) t width) front ∙ row_sum width height y words fits packed (omega arith))
    ∙ sym (sum_by-append ones (take (y * s) words) (take s (drop (y * s) words)))
    ∙ ap bits_in (sym (take-add (y * s) s words))
    ∙ ap (λ (t : ℕ). bits_in (take t words)) (sym words_wide)

-- the set bits are the sum of the samples
pub bits_are_sum : (width height : ℕ) (words : List ℕ) → ((k : ℕ) → get_or words k 0 < 2 ^ 64) → IsPacked width height words → bits_in words ≡ sum (samples_of width height words)
unfolding samples_of
bits_are_sum width height words fits packed =
    ap bits_in (sym (take_all (height * stride_of width) words (omega (arith, packed.size)))) ∙ sym (rows_sum width height height words fits packed (omega arith))
