-- Bytes whose bits are turned round, lane by lane, and the words that they make.
use Rattle.std.proofs.Common.{◌≡◌, ℕ, zero, suc, ◌+◌, ◌*◌, ◌/◌, ◌%◌, ◌^◌, ◌<◌, ◌≤◌, Bool, true, false, ◌&&◌, eqb, bit_and, bit_or, List, [], ◌∷◌, ◌++◌, length, map, replicate, get_or, refl, sym, ap, ◌∙◌, arith, inl, inr, w8, w64, Fits, length-append, ◌-◌}
use Rattle.std.specs.List.{flat_map}
use Rattle.std.proofs.Math.ListN.{get_or-append}
use Rattle.std.proofs.lemmas.Bool.{cases_lt}
use Rattle.std.proofs.lemmas.Bool.Decides.{nat_tests}
use Rattle.std.proofs.lemmas.List.{take_all, get_or-append_right}
use Rattle.std.proofs.lemmas.Simd.{Each1-from_get_or}
use lib.Lanes.{zip2, Each1, chunk, number_l, digits_l}
use Rattle.mw_model.proofs.mw_facts.Alls.{all-append}
use Rattle.mw_model.proofs.mw_facts.Numbers.{below_or_last}
use Rattle.mw_model.specs.NetpbmGrammar.{bits_of}
use Rattle.mw_model.specs.NetpbmWriting.{packed}
use Rattle.mw_netpbm_plain.specs.mw_pixel_words.Packed.{bit_of}
use Rattle.mw_netpbm_plain.proofs.mw_pixel_words.Bits.{bit_of_word, bit_of_past}
use Rattle.mw_netpbm.specs.SetWords.{turn, pixels_of}
use Rattle.mw_netpbm_plain.specs.SetWords.{in_words}
use Rattle.mw_netpbm_plain.proofs.Sides.{Within}
use Rattle.mw_netpbm.proofs.Sides.{bits_within}
use Rattle.mw_netpbm_plain.proofs.Numbered.{digit_bit, length-digits, digits_parts}
use Rattle.mw_netpbm_plain.proofs.InWords.{words_of_number, bit_right}

-- ---- a byte

-- groups of so many bits, swapped with their neighbours
abbrev swapped : ℕ → ℕ → ℕ → ℕ
swapped mask by b = bit_or (bit_and (b / 2 ^ by) mask) (bit_and b mask * 2 ^ by % 2 ^ 8)

abbrev thrice : ℕ → ℕ
thrice b = swapped 15 4 (swapped 51 2 (swapped 85 1 b))

-- the bytes below a number are turned by that
abbrev all_turned : ℕ → Bool
all_turned zero = true
all_turned (suc n) = eqb (thrice n) (turn n) && all_turned n

pub both_true : (a b : Bool) → (a && b) ≡ true → (a ≡ true) × (b ≡ true)
both_true true b h = (refl, h)
both_true false b h = absurd (let clash : false ≡ true = h in cc)

pub same_numbers : (m n : ℕ) → eqb m n ≡ true → m ≡ n
same_numbers m n h = grind (arith, nat_tests)

turned_below : (n b : ℕ) → b < n → all_turned n ≡ true → thrice b ≡ turn b
turned_below zero b lt all = absurd (omega arith)
turned_below (suc n) b lt all =
    let both = both_true (eqb (thrice n) (turn n)) (all_turned n) all in
    elim (below_or_last n b (omega arith)) [
      | inl less ↦ turned_below n b less both.1
      | inr last ↦ ap thrice last ∙ same_numbers (thrice n) (turn n) both.0 ∙ ap turn (sym last)
    ]

byte_turned : (b : ℕ) → b < 256 → thrice b ≡ turn b
byte_turned b lt = turned_below 256 b lt refl

-- ---- lanes of bytes

abbrev swapped_l : ℕ → ℕ → ℕ → List ℕ → List ℕ
swapped_l n mask by xs =
    zip2 bit_or (zip2 bit_and (zip2 (λ a b. a / 2 ^ b) xs (replicate n by)) (replicate n mask)) (zip2 (λ a b. a * 2 ^ b % 2 ^ 8) (zip2 bit_and xs (replicate n mask)) (replicate n by))

pub turned_lanes : (n : ℕ) (xs : List ℕ) → length xs ≡ n → Each1 (Fits w8) xs → swapped_l n 15 4 (swapped_l n 51 2 (swapped_l n 85 1 xs)) ≡ map turn xs
turned_lanes zero [] len fits = refl
turned_lanes zero (x ∷ xs) len fits = absurd (omega arith)
turned_lanes (suc n) [] len fits = absurd (omega arith)
turned_lanes (suc n) (x ∷ xs) len fits =
    ap (λ (ys : List ℕ). thrice x ∷ ys) (turned_lanes n xs (omega arith) fits.1) ∙ ap (λ (b : ℕ). b ∷ map turn xs) (byte_turned x fits.0.fits)

-- ---- bytes that become words

eight_number : (a b c d e f g h r : ℕ) → a + 2 * (b + 2 * (c + 2 * (d + 2 * (e + 2 * (f + 2 * (g + 2 * (h + 2 * r))))))) ≡ a + 2 * b + 4 * c + 8 * d + 16 * e + 32 * f + 64 * g + 128 * h + 256 * r
eight_number a b c d e f g h r = omega arith

byte_number : (b : ℕ) (bits : List ℕ) → number_l 2 (bits_of b ++ bits) ≡ turn b + 256 * number_l 2 bits
unfolding bits_of
byte_number b bits = eight_number (b / 128 % 2) (b / 64 % 2) (b / 32 % 2) (b / 16 % 2) (b / 8 % 2) (b / 4 % 2) (b / 2 % 2) (b % 2) (number_l 2 bits)

turned_number : (bytes : List ℕ) → number_l 256 (map turn bytes) ≡ number_l 2 (flat_map bits_of bytes)
turned_number [] = refl
turned_number (b ∷ bs) = ap (λ (n : ℕ). turn b + 256 * n) (turned_number bs) ∙ sym (byte_number b (flat_map bits_of bs))

pub bytes_within : (bytes : List ℕ) → Within 1 (flat_map bits_of bytes)
bytes_within [] = tt
bytes_within (b ∷ bs) = all-append (λ s. s ≤ 1) (bits_of b) (flat_map bits_of bs) (bits_within b) (bytes_within bs)

pub pixels_loaded : (bytes turned words : List ℕ) → length bytes ≡ 64 → turned ≡ map turn (chunk 0 64 bytes) → words ≡ digits_l (2 ^ 64) 8 (number_l 256 turned) → words ≡ in_words 8 (flat_map bits_of bytes)
pixels_loaded bytes turned words long turned-are is =
    let whole : chunk 0 64 bytes ≡ bytes = take_all 64 bytes (omega arith) in
    is
    ∙ ap (λ (bs : List ℕ). digits_l (2 ^ 64) 8 (number_l 256 bs)) (turned-are ∙ ap (map turn) whole)
    ∙ ap (digits_l (2 ^ 64) 8) (turned_number bytes)
    ∙ words_of_number 8 (flat_map bits_of bytes) (bytes_within bytes)

-- ---- words that become bytes

reorder : (a b c d e f g h : ℕ) → a + 2 * b + 4 * c + 8 * d + 16 * e + 32 * f + 64 * g + 128 * h ≡ 128 * h + 64 * g + 32 * f + 16 * e + 8 * d + 4 * c + 2 * b + a
reorder a b c d e f g h = omega arith

low_byte : (n : ℕ) → turn (n % 256) ≡ 128 * (n % 2) + 64 * (n / 2 % 2) + 32 * (n / 2 / 2 % 2) + 16 * (n / 2 / 2 / 2 % 2) + 8 * (n / 2 / 2 / 2 / 2 % 2) + 4 * (n / 2 / 2 / 2 / 2 / 2 % 2) + 2 * (n / 2 / 2 / 2 / 2 / 2 / 2 % 2) + n / 2 / 2 / 2 / 2 / 2 / 2 / 2 % 2
low_byte n =
    rw (
      (let e : n % 256 / 128 % 2 ≡ n / 2 / 2 / 2 / 2 / 2 / 2 / 2 % 2 = omega arith in e),
      (let e : n % 256 / 64 % 2 ≡ n / 2 / 2 / 2 / 2 / 2 / 2 % 2 = omega arith in e),
      (let e : n % 256 / 32 % 2 ≡ n / 2 / 2 / 2 / 2 / 2 % 2 = omega arith in e),
      (let e : n % 256 / 16 % 2 ≡ n / 2 / 2 / 2 / 2 % 2 = omega arith in e),
      (let e : n % 256 / 8 % 2 ≡ n / 2 / 2 / 2 % 2 = omega arith in e),
      (let e : n % 256 / 4 % 2 ≡ n / 2 / 2 % 2 = omega arith in e),
      (let e : n % 256 / 2 % 2 ≡ n / 2 % 2 = omega arith in e),
      (let e : n % 256 % 2 ≡ n % 2 = omega arith in e),
    ) (reorder (n / 2 / 2 / 2 / 2 / 2 / 2 / 2 % 2) (n / 2 / 2 / 2 / 2 / 2 / 2 % 2) (n / 2 / 2 / 2 / 2 / 2 % 2) (n / 2 / 2 / 2 / 2 % 2) (n / 2 / 2 / 2 % 2) (n / 2 / 2 % 2) (n / 2 % 2) (n % 2))

turned_digits : (n word : ℕ) → map turn (digits_l 256 n word) ≡ packed n (digits_l 2 (8 * n) word)
unfolding packed
turned_digits zero word = refl
turned_digits (suc n) word =
    let count : 8 * suc n ≡ suc (suc (suc (suc (suc (suc (suc (suc (8 * n)))))))) = omega arith in
    let others : word / 2 / 2 / 2 / 2 / 2 / 2 / 2 / 2 ≡ word / 256 = omega arith in
    let first = 128 * (word % 2) + 64 * (word / 2 % 2) + 32 * (word / 2 / 2 % 2) + 16 * (word / 2 / 2 / 2 % 2) + 8 * (word / 2 / 2 / 2 / 2 % 2) + 4 * (word / 2 / 2 / 2 / 2 / 2 % 2) + 2 * (word / 2 / 2 / 2 / 2 / 2 / 2 % 2) + word / 2 / 2 / 2 / 2 / 2 / 2 / 2 % 2 in
    ap (λ (b : ℕ). b ∷ map turn (digits_l 256 n (word / 256))) (low_byte word)
    ∙ ap (λ (bs : List ℕ). first ∷ bs) (turned_digits n (word / 256))
    ∙ ap (λ (m : ℕ). first ∷ packed n (digits_l 2 (8 * n) m)) (sym others)
    ∙ sym (ap (λ (m : ℕ). packed (suc n) (digits_l 2 m word)) count)

-- the bits of words, one word after another
words_digits : (k : ℕ) (words : List ℕ) → Each1 (λ w. w < 2 ^ k) words → digits_l 2 (k * length words) (number_l (2 ^ k) words) ≡ flat_map (digits_l 2 k) words
words_digits k [] small = let none : k * 0 ≡ 0 = omega arith in ap (λ (n : ℕ). digits_l 2 n 0) none
words_digits k (w ∷ ws) small =
    let count : k * suc (length ws) ≡ k + k * length ws = omega arith in
    ap (λ (n : ℕ). digits_l 2 n (w + 2 ^ k * number_l (2 ^ k) ws)) count
    ∙ digits_parts k (k * length ws) w (number_l (2 ^ k) ws) small.0
    ∙ ap (λ (ds : List ℕ). digits_l 2 k w ++ ds) (words_digits k ws small.1)

below : (words : List ℕ) → Each1 (Fits w64) words → Each1 (λ w. w < 2 ^ 64) words
below [] fits = tt
below (w ∷ ws) fits = (fits.0.fits, below ws fits.1)

pub pixels_stored : (words bytes turned : List ℕ) → length words ≡ 8 → ((k : ℕ) → Fits w64 (get_or words k 0)) → bytes ≡ digits_l 256 64 (number_l (2 ^ 64) (chunk 0 8 words)) → turned ≡ map turn bytes → turned ≡ packed 64 (flat_map pixels_of words)
unfolding pixels_of
pixels_stored words bytes turned long fits bytes-are is =
    let whole : chunk 0 8 words ≡ words = take_all 8 words (omega arith) in
    let small = below words (Each1-from_get_or (Fits w64) words 0 (λ k lt. fits k)) in
    let count : 512 ≡ 64 * length words = omega arith in
    is
    ∙ ap (map turn) (bytes-are ∙ ap (λ (ws : List ℕ). digits_l 256 64 (number_l (2 ^ 64) ws)) whole)
    ∙ turned_digits 64 (number_l (2 ^ 64) words)
    ∙ ap (packed 64) (ap (λ (n : ℕ). digits_l 2 n (number_l (2 ^ 64) words)) count ∙ words_digits 64 words small)

-- ---- the pixels of words, place by place

pub length-pixels : (words : List ℕ) → length (flat_map pixels_of words) ≡ 64 * length words
unfolding pixels_of
length-pixels [] = refl
length-pixels (w ∷ ws) =
    length-append (digits_l 2 64 w) (flat_map pixels_of ws)
    ∙ ap (λ (n : ℕ). n + length (flat_map pixels_of ws)) (length-digits 2 64 w)
    ∙ ap (λ (n : ℕ). 64 + n) (length-pixels ws)
    ∙ one_more (length ws)
  where
    one_more : (n : ℕ) → 64 + 64 * n ≡ 64 * suc n
    one_more n = omega arith

pub word_pixels : (words : List ℕ) (x : ℕ) → get_or (flat_map pixels_of words) x 0 ≡ bit_of words x
unfolding pixels_of
word_pixels [] x = sym (bit_of_past [] x (omega arith))
word_pixels (w ∷ ws) x =
    let size = length-digits 2 64 w in
    elim (cases_lt x 64) [
      | inl inside ↦
          get_or-append (digits_l 2 64 w) (flat_map pixels_of ws) 0 x (omega (arith, size))
          ∙ digit_bit 64 w x inside
          ∙ sym (bit_of_word (w ∷ ws) 0 x x inside (omega arith))
      | inr past ↦
          let place : x ≡ 64 * 1 + (x - 64) = omega arith in
          get_or-append_right (digits_l 2 64 w) (flat_map pixels_of ws) 64 x 0 size past
          ∙ word_pixels ws (x - 64)
          ∙ sym (bit_right (w ∷ []) ws 1 (x - 64) x refl place)
    ]
