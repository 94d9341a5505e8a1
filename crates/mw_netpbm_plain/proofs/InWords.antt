-- Pixels in words, and rows of them.
use Rattle.std.proofs.Common.{◌≡◌, ℕ, zero, suc, ◌+◌, ◌-◌, ◌*◌, ◌/◌, ◌%◌, ◌^◌, ◌<◌, ◌≤◌, List, ◌∷◌, ◌++◌, length, take, drop, replicate, get_or, refl, sym, ap, ◌∙◌, arith, inl, inr, length-take, length-drop, length-append}
use Rattle.std.specs.Int.{bit_at}
use Rattle.std.specs.Simd.Lanes.{number_l, digits_l}
use Rattle.std.proofs.Math.ListN.{get_or-append}
use Rattle.std.proofs.lemmas.Bool.{cases_lt}
use Rattle.std.proofs.lemmas.List.{get_or-take, get_or-drop, get_or_past, get_or-append_right, drop-drop, drop_at, take-append-le, drop-append-le}
use Rattle.std.proofs.lemmas.Nat.Bits.{bit_at-zero}
use Rattle.mw_model.proofs.mw_facts.Alls.{all-append, all-take, all-drop}
use Rattle.mw_model.proofs.mw_facts.Elements.{get_or-replicate_same}
use Rattle.mw_pixel.specs.mw_pixel_words.Packed.{bit_of, stride_of, samples_of, IsPacked}
use Rattle.mw_pixel.proofs.mw_pixel_words.Bits.{bit_of_word, bit_of_its_word, samples_are_bits}
use Rattle.mw_netpbm_plain.specs.SetWords.{in_words, in_rows}
use Rattle.mw_netpbm_plain.proofs.Sides.{Within}
use Rattle.mw_netpbm_plain.proofs.Numbered.{number_bit, number_parts, number_small, number_zeros}

-- ---- words

-- the words that a number's bits are
pub words_of_number : (n : ℕ) (bits : List ℕ) → Within 1 bits → digits_l (2 ^ 64) n (number_l 2 bits) ≡ in_words n bits
unfolding in_words
words_of_number zero bits w = refl
words_of_number (suc n) bits w =
    let low : number_l 2 bits % 2 ^ 64 ≡ number_l 2 (take 64 bits) = omega (arith, number_parts 64 bits, number_small 64 bits w) in
    let high : number_l 2 bits / 2 ^ 64 ≡ number_l 2 (drop 64 bits) = omega (arith, number_parts 64 bits, number_small 64 bits w) in
    ap (λ (m : ℕ). m ∷ digits_l (2 ^ 64) n (number_l 2 bits / 2 ^ 64)) low
    ∙ ap (λ (m : ℕ). number_l 2 (take 64 bits) ∷ digits_l (2 ^ 64) n m) high
    ∙ ap (λ (ws : List ℕ). number_l 2 (take 64 bits) ∷ ws) (words_of_number n (drop 64 bits) (all-drop (λ s. s ≤ 1) 64 bits w))

pub length-in_words : (n : ℕ) (bits : List ℕ) → length (in_words n bits) ≡ n
unfolding in_words
length-in_words zero bits = refl
length-in_words (suc n) bits = ap suc (length-in_words n (drop 64 bits))

later : (k : ℕ) (bits : List ℕ) → drop (64 * k) (drop 64 bits) ≡ drop (64 * suc k) bits
later k bits = let sum : 64 + 64 * k ≡ 64 * suc k = omega arith in drop-drop (64 * k) 64 bits ∙ ap (λ (m : ℕ). drop m bits) sum

word_there : (n k : ℕ) (bits : List ℕ) → k < n → get_or (in_words n bits) k 0 ≡ number_l 2 (take 64 (drop (64 * k) bits))
unfolding in_words
word_there zero k bits lt = absurd (omega arith)
word_there (suc n) zero bits lt = refl
word_there (suc n) (suc k) bits lt = word_there n k (drop 64 bits) (omega arith) ∙ ap (λ (bs : List ℕ). number_l 2 (take 64 bs)) (later k bits)

pub bit_in_words : (n x : ℕ) (bits : List ℕ) → Within 1 bits → x < 64 * n → bit_of (in_words n bits) x ≡ get_or bits x 0
bit_in_words n x bits w lt =
    let k = x / 64 in
    let i = x % 64 in
    let small : i < 64 = omega arith in
    let inside : k < n = omega arith in
    let place : 64 * k + i ≡ x = omega arith in
    let rest = drop (64 * k) bits in
    bit_of_its_word (in_words n bits) x
    ∙ ap (λ (t : ℕ). bit_at t i) (word_there n k bits inside)
    ∙ number_bit (take 64 rest) i (all-take (λ s. s ≤ 1) 64 rest (all-drop (λ s. s ≤ 1) (64 * k) bits w))
    ∙ get_or-take 64 rest i 0 small
    ∙ get_or-drop (64 * k) bits i 0
    ∙ ap (λ (t : ℕ). get_or bits t 0) place

-- whole words, and those behind them
words_parts : (n m : ℕ) (bits : List ℕ) → in_words (n + m) bits ≡ in_words n bits ++ in_words m (drop (64 * n) bits)
unfolding in_words
words_parts zero m bits = let count : 0 + m ≡ m = omega arith in ap (λ (k : ℕ). in_words k bits) count
words_parts (suc n) m bits =
    let count : suc n + m ≡ suc (n + m) = omega arith in
    ap (λ (k : ℕ). in_words k bits) count
    ∙ ap (λ (ws : List ℕ). number_l 2 (take 64 bits) ∷ ws) (words_parts n m (drop 64 bits) ∙ ap (λ (bs : List ℕ). in_words n (drop 64 bits) ++ in_words m bs) (later n bits))

words_front : (n : ℕ) (xs ys : List ℕ) → 64 * n ≤ length xs → in_words n (xs ++ ys) ≡ in_words n xs
unfolding in_words
words_front zero xs ys le = refl
words_front (suc n) xs ys le =
    let first : 64 ≤ length xs = omega arith in
    ap (λ (bs : List ℕ). number_l 2 bs ∷ in_words n (drop 64 (xs ++ ys))) (take-append-le 64 xs ys first)
    ∙ ap (λ (bs : List ℕ). number_l 2 (take 64 xs) ∷ in_words n bs) (drop-append-le 64 xs ys first)
    ∙ ap (λ (ws : List ℕ). number_l 2 (take 64 xs) ∷ ws) (words_front n (drop 64 xs) ys (omega (arith, length-drop 64 xs)))

pub words_append : (n m : ℕ) (xs ys : List ℕ) → length xs ≡ 64 * n → in_words (n + m) (xs ++ ys) ≡ in_words n xs ++ in_words m ys
words_append n m xs ys len =
    words_parts n m (xs ++ ys)
    ∙ ap (λ (ws : List ℕ). ws ++ in_words m (drop (64 * n) (xs ++ ys))) (words_front n xs ys (omega arith))
    ∙ ap (λ (bs : List ℕ). in_words n xs ++ in_words m bs) (drop_at xs ys (64 * n) len)

zeros_within : (k : ℕ) → Within 1 (replicate k 0)
zeros_within zero = tt
zeros_within (suc k) = (omega arith, zeros_within k)

-- pixels of 0 behind others
pub words_zeros : (n k : ℕ) (bits : List ℕ) → Within 1 bits → in_words n (bits ++ replicate k 0) ≡ in_words n bits
words_zeros n k bits w =
    sym (words_of_number n (bits ++ replicate k 0) (all-append (λ s. s ≤ 1) bits (replicate k 0) w (zeros_within k)))
    ∙ ap (digits_l (2 ^ 64) n) (number_zeros bits k)
    ∙ words_of_number n bits w

pub words_taken : (k n : ℕ) (bits : List ℕ) → k ≤ n → take k (in_words n bits) ≡ in_words k bits
unfolding in_words
words_taken zero n bits le = refl
words_taken (suc k) zero bits le = absurd (omega arith)
words_taken (suc k) (suc n) bits le = ap (λ (ws : List ℕ). number_l 2 (take 64 bits) ∷ ws) (words_taken k n (drop 64 bits) (omega arith))

-- ---- bits of words that stand one after another

pub bit_left : (words others : List ℕ) (q : ℕ) → q < 64 * length words → bit_of (words ++ others) q ≡ bit_of words q
bit_left words others q lt =
    let inside : q / 64 < length words = omega arith in
    bit_of_its_word (words ++ others) q ∙ ap (λ (t : ℕ). bit_at t (q % 64)) (get_or-append words others 0 (q / 64) inside) ∙ sym (bit_of_its_word words q)

pub bit_right : (words others : List ℕ) (n q p : ℕ) → length words ≡ n → p ≡ 64 * n + q → bit_of (words ++ others) p ≡ bit_of others q
bit_right words others n q p len p-is =
    let k = q / 64 in
    let i = q % 64 in
    let small : i < 64 = omega arith in
    let place : p ≡ 64 * (n + k) + i = omega arith in
    let from : n ≤ n + k = omega arith in
    let back : n + k - n ≡ k = omega arith in
    bit_of_word (words ++ others) (n + k) i p small place
    ∙ ap (λ (t : ℕ). bit_at t i) (get_or-append_right words others n (n + k) 0 len from ∙ ap (λ (t : ℕ). get_or others t 0) back)
    ∙ sym (bit_of_its_word others q)

-- words of 0 behind others
pub bit_zeros : (words : List ℕ) (k q : ℕ) → bit_of (words ++ replicate k 0) q ≡ bit_of words q
bit_zeros words k q =
    elim (cases_lt q (64 * length words)) [
      | inl inside ↦ bit_left words (replicate k 0) q inside
      | inr past ↦
          let rest = q - 64 * length words in
          let place : q ≡ 64 * length words + rest = omega arith in
          let out : length words ≤ q / 64 = omega arith in
          bit_right words (replicate k 0) (length words) rest q refl place
          ∙ none (replicate k 0) rest (get_or-replicate_same k (rest / 64) 0)
          ∙ sym (none words q (get_or_past words (q / 64) 0 out))
    ]
  where
    none : (ws : List ℕ) (p : ℕ) → get_or ws (p / 64) 0 ≡ 0 → bit_of ws p ≡ 0
    none ws p zero-is = bit_of_its_word ws p ∙ ap (λ (t : ℕ). bit_at t (p % 64)) zero-is ∙ bit_at-zero (p % 64)

-- ---- rows

pub length-in_rows : (width height : ℕ) (samples : List ℕ) → length (in_rows width height samples) ≡ height * stride_of width
unfolding in_rows
length-in_rows width zero samples = omega arith
length-in_rows width (suc height) samples =
    length-append (in_words (stride_of width) (take width samples)) (in_rows width height (drop width samples))
    ∙ ap (λ (n : ℕ). n + length (in_rows width height (drop width samples))) (length-in_words (stride_of width) (take width samples))
    ∙ ap (λ (n : ℕ). stride_of width + n) (length-in_rows width height (drop width samples))
    ∙ one_more height (stride_of width)
  where
    one_more : (h s : ℕ) → s + h * s ≡ suc h * s
    one_more h s = omega arith

row_bit : (width height : ℕ) (samples : List ℕ) (x y : ℕ) → Within 1 samples → y < height → x < 64 * stride_of width
    → bit_of (in_rows width height samples) (y * (64 * stride_of width) + x) ≡ get_or (take width (drop (y * width) samples)) x 0
unfolding in_rows
row_bit width zero samples x y w lt less = absurd (omega arith)
row_bit width (suc height) samples x zero w lt less =
    let row = in_words (stride_of width) (take width samples) in
    let others = in_rows width height (drop width samples) in
    let size = length-in_words (stride_of width) (take width samples) in
    let inside : x < 64 * length row = omega (arith, size) in
    let start : (s : ℕ) → 0 * (64 * s) + x ≡ x = λ s. omega arith in
    let none : 0 * width ≡ 0 = omega arith in
    ap (bit_of (row ++ others)) (start (stride_of width))
    ∙ bit_left row others x inside
    ∙ bit_in_words (stride_of width) x (take width samples) (all-take (λ s. s ≤ 1) width samples w) less
    ∙ ap (λ (n : ℕ). get_or (take width (drop n samples)) x 0) (sym none)
row_bit width (suc height) samples x (suc y) w lt less =
    let row = in_words (stride_of width) (take width samples) in
    let others = in_rows width height (drop width samples) in
    let next : (s : ℕ) → suc y * (64 * s) + x ≡ 64 * s + (y * (64 * s) + x) = λ s. omega arith in
    let more : width + y * width ≡ suc y * width = omega arith in
    bit_right row others (stride_of width) (y * (64 * stride_of width) + x) (suc y * (64 * stride_of width) + x) (length-in_words (stride_of width) (take width samples)) (next (stride_of width))
    ∙ row_bit width height (drop width samples) x y (all-drop (λ s. s ≤ 1) width samples w) (omega arith) less
    ∙ ap (λ (bs : List ℕ). get_or (take width bs) x 0) (drop-drop (y * width) width samples ∙ ap (λ (n : ℕ). drop n samples) more)

pub rows_are_packed : (width height : ℕ) (samples words : List ℕ) → words ≡ in_rows width height samples → Within 1 samples → IsPacked width height words
rows_are_packed width height samples words words-are w = record {
  size = ap length words-are ∙ length-in_rows width height samples;
  clean = λ x y row_less past less.
      ap (λ (ws : List ℕ). bit_of ws (y * (64 * stride_of width) + x)) words-are
      ∙ row_bit width height samples x y w row_less less
      ∙ get_or_past (take width (drop (y * width) samples)) x 0 (omega (arith, length-take width (drop (y * width) samples)));
}

pub rows_samples : (width height : ℕ) (samples words : List ℕ) → words ≡ in_rows width height samples → length samples ≡ height * width → Within 1 samples → samples_of width height words ≡ samples
rows_samples width height samples words words-are size w =
    ap (samples_of width height) words-are
    ∙ sym (samples_are_bits width height (in_rows width height samples) samples size
    (λ x y lt row_less.
    sym (row_bit width height samples x y w row_less (wider width x lt) ∙ get_or-take width (drop (y * width) samples) x 0 lt ∙ get_or-drop (y * width) samples x 0)))
  where
    wider : (width x : ℕ) → x < width → x < 64 * stride_of width
    wider width x lt = omega arith
