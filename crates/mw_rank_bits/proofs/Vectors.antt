-- Two words side by side.
use Rattle.std.proofs.Common.{◌≡◌, ◌⊎◌, ℕ, ◌+◌, ◌-◌, ◌*◌, ◌/◌, ◌%◌, ◌^◌, ◌<◌, ◌≤◌, min, max, bit_and, bit_or, bit_xor, List, [], ◌∷◌, length, take, drop, get_or, refl, ap, sym, arith, ◌∙◌, inl, inr, length-take, length-drop}
use Rattle.std.specs.Int.{bit_at}
use Rattle.std.proofs.lemmas.Bool.{cases_lt}
use Rattle.std.proofs.lemmas.List.{get_or-take, get_or-drop}
use Rattle.std.proofs.lemmas.Nat.Bits.{bit_at_and, bit_at_or, bit_at_xor, bit_at_ones, bit_at-zero}
use Rattle.std.proofs.lemmas.Simd.{put_chunk_whole, length-zip2, get_or-zip2, get_or-chunk, length-chunk}
use Rattle.mw_model.proofs.mw_facts.Parts.{get_or-put_mid_below, get_or-put_mid_within, get_or-put_mid_above}
use Rattle.mw_bits.specs.mw_pixel_words.Packed.{bit_of}
use Rattle.mw_bits.proofs.mw_pixel_words.Bits.{bit_of_word, bit_of_its_word, bit_of-lt}
use Rattle.mw_bits.proofs.mw_pixel_words.Done.{blank_bit}
use Rattle.mw_bits.proofs.mw_pixel_words.Funnels.{IsFunnel, funnel_at, funnel_below, funnel_above}
use borrow.Rule.Slice.PartMut.{put_mid}
use lib.Lanes.{zip2, chunk, put_chunk}

-- a word twice
pub splat_bit : (word n q : ℕ) → q < 128 → ((i : ℕ) → i < 64 → bit_at word i ≡ n) → bit_of (word ∷ word ∷ []) q ≡ n
splat_bit word n q lt is = blank_bit 2 word n q (omega arith) is

pub all_bit : (q : ℕ) → q < 128 → bit_of (18446744073709551615 ∷ 18446744073709551615 ∷ []) q ≡ 1
all_bit q lt = splat_bit 18446744073709551615 1 q lt (λ i less. bit_at_ones 64 i less)

pub no_bit : (q : ℕ) → q < 128 → bit_of (0 ∷ 0 ∷ []) q ≡ 0
no_bit q lt = splat_bit 0 0 q lt (λ i less. bit_at-zero i)

-- words in pairs
pub paired_long : (f : ℕ → ℕ → ℕ) (xs ys : List ℕ) → length xs ≡ 2 → length ys ≡ 2 → length (zip2 f xs ys) ≡ 2
paired_long f xs ys x y = length-zip2 f xs ys (x ∙ sym y) ∙ x

paired_bit : (f g : ℕ → ℕ → ℕ) (xs ys : List ℕ) (q : ℕ) → ((a b i : ℕ) → bit_at (f a b) i ≡ g (bit_at a i) (bit_at b i)) → length xs ≡ 2 → length ys ≡ 2 → q < 128 → bit_of (zip2 f xs ys) q ≡ g (bit_of xs q) (bit_of ys q)
paired_bit f g xs ys q law x y lt =
    let k = q / 64 in
    let i = q % 64 in
    bit_of_its_word (zip2 f xs ys) q
    ∙ ap (λ (t : ℕ). bit_at t i) (get_or-zip2 f xs ys k 0 0 0 (omega arith) (omega arith))
    ∙ law (get_or xs k 0) (get_or ys k 0) i
    ∙ ap (λ (t : ℕ). g t (bit_at (get_or ys k 0) i)) (sym (bit_of_its_word xs q))
    ∙ ap (g (bit_of xs q)) (sym (bit_of_its_word ys q))

xor_bit : (xs ys : List ℕ) (q : ℕ) → length xs ≡ 2 → length ys ≡ 2 → q < 128 → bit_of (zip2 bit_xor xs ys) q ≡ (bit_of xs q + bit_of ys q) % 2
xor_bit xs ys q = paired_bit bit_xor (λ (a b : ℕ). (a + b) % 2) xs ys q bit_at_xor

and_bit : (xs ys : List ℕ) (q : ℕ) → length xs ≡ 2 → length ys ≡ 2 → q < 128 → bit_of (zip2 bit_and xs ys) q ≡ min (bit_of xs q) (bit_of ys q)
and_bit xs ys q = paired_bit bit_and min xs ys q bit_at_and

or_bit : (xs ys : List ℕ) (q : ℕ) → length xs ≡ 2 → length ys ≡ 2 → q < 128 → bit_of (zip2 bit_or xs ys) q ≡ max (bit_of xs q) (bit_of ys q)
or_bit xs ys q = paired_bit bit_or max xs ys q bit_at_or

pub turned_bit : (xs : List ℕ) (q : ℕ) → length xs ≡ 2 → q < 128 → bit_of (zip2 bit_xor xs (18446744073709551615 ∷ 18446744073709551615 ∷ [])) q ≡ 1 - bit_of xs q
turned_bit xs q x lt =
    let is = xor_bit xs (18446744073709551615 ∷ 18446744073709551615 ∷ []) q x refl lt in
    let all = all_bit q lt in
    let small = bit_of-lt xs q in
    omega arith

pub parity_bit : (xs ys zs : List ℕ) (q : ℕ) → length xs ≡ 2 → length ys ≡ 2 → length zs ≡ 2 → q < 128 → bit_of (zip2 bit_xor (zip2 bit_xor xs ys) zs) q ≡ (bit_of xs q + bit_of ys q + bit_of zs q) % 2
parity_bit xs ys zs q x y z lt =
    let first = xor_bit xs ys q x y lt in
    let all = xor_bit (zip2 bit_xor xs ys) zs q (paired_long bit_xor xs ys x y) z lt in
    omega arith

pub majority_bit : (xs ys zs : List ℕ) (q : ℕ) → length xs ≡ 2 → length ys ≡ 2 → length zs ≡ 2 → q < 128
    → bit_of (zip2 bit_or (zip2 bit_and xs ys) (zip2 bit_and (zip2 bit_xor xs ys) zs)) q ≡ (bit_of xs q + bit_of ys q + bit_of zs q) / 2
majority_bit xs ys zs q x y z lt =
    let both = and_bit xs ys q x y lt in
    let either = xor_bit xs ys q x y lt in
    let third = and_bit (zip2 bit_xor xs ys) zs q (paired_long bit_xor xs ys x y) z lt in
    let all = or_bit (zip2 bit_and xs ys) (zip2 bit_and (zip2 bit_xor xs ys) zs) q (paired_long bit_and xs ys x y) (paired_long bit_and (zip2 bit_xor xs ys) zs (paired_long bit_xor xs ys x y) z) lt in
    carried (bit_of xs q) (bit_of ys q) (bit_of zs q) _ _ _ _ (bit_of-lt xs q) (bit_of-lt ys q) (bit_of-lt zs q) both either third all
  where
    carried : (a b c both either third all : ℕ) → a < 2 → b < 2 → c < 2 → both ≡ min a b → either ≡ (a + b) % 2 → third ≡ min either c → all ≡ max both third → all ≡ (a + b + c) / 2
    carried a b c both either third all a-lt b-lt c-lt both-is either-is third-is all-is = omega arith

-- what is loaded
part_long : (words : List ℕ) (at end : ℕ) → end ≡ at + 2 → end ≤ length words → length (take (end - at) (drop at words)) ≡ 2
part_long words at end end-is fits = omega (arith, length-take (end - at) (drop at words), length-drop at words)

pub loaded_long : (words : List ℕ) (at end : ℕ) → end ≡ at + 2 → end ≤ length words → length (chunk 0 2 (take (end - at) (drop at words))) ≡ 2
loaded_long words at end end-is fits = let long = part_long words at end end-is fits in length-chunk 0 2 (take (end - at) (drop at words)) (omega arith)

loaded_word : (words : List ℕ) (at end k : ℕ) → end ≡ at + 2 → end ≤ length words → k < 2 → get_or (chunk 0 2 (take (end - at) (drop at words))) k 0 ≡ get_or words (at + k) 0
loaded_word words at end k end-is fits lt =
    get_or-chunk 0 2 (take (end - at) (drop at words)) k 0 lt
    ∙ ap (λ (t : ℕ). get_or (take (end - at) (drop at words)) t 0) (let same : 0 + k ≡ k = omega arith in same)
    ∙ get_or-take (end - at) (drop at words) k 0 (omega arith)
    ∙ get_or-drop at words k 0

pub loaded_bit : (words : List ℕ) (at end q : ℕ) → end ≡ at + 2 → end ≤ length words → q < 128 → bit_of (chunk 0 2 (take (end - at) (drop at words))) q ≡ bit_of words (64 * at + q)
loaded_bit words at end q end-is fits lt =
    bit_of_its_word (chunk 0 2 (take (end - at) (drop at words))) q
    ∙ ap (λ (t : ℕ). bit_at t (q % 64)) (loaded_word words at end (q / 64) end-is fits (omega arith))
    ∙ sym (bit_of_word words (at + q / 64) (q % 64) (64 * at + q) (omega arith) (omega arith))

-- what is stored
abbrev pub stored : List ℕ → ℕ → List ℕ → List ℕ
stored out at lanes = put_mid at (at + 2 - at) out (put_chunk 0 (take (at + 2 - at) (drop at out)) lanes)

stored_is : (out : List ℕ) (at : ℕ) (lanes : List ℕ) → at + 2 ≤ length out → length lanes ≡ 2 → stored out at lanes ≡ put_mid at (at + 2 - at) out lanes
stored_is out at lanes fits long =
    let part = part_long out at (at + 2) refl fits in
    ap (put_mid at (at + 2 - at) out) (put_chunk_whole (take (at + 2 - at) (drop at out)) lanes (omega arith))

pub stored_bit : (out : List ℕ) (at : ℕ) (lanes : List ℕ) (q : ℕ) → at + 2 ≤ length out → length lanes ≡ 2 → q < 128 → bit_of (stored out at lanes) (64 * at + q) ≡ bit_of lanes q
stored_bit out at lanes q fits long lt =
    ap (λ (t : List ℕ). bit_of t (64 * at + q)) (stored_is out at lanes fits long)
    ∙ bit_of_word (put_mid at (at + 2 - at) out lanes) (at + q / 64) (q % 64) (64 * at + q) (omega arith) (omega arith)
    ∙ ap (λ (t : ℕ). bit_at t (q % 64)) (get_or-put_mid_within at (at + 2 - at) out lanes (at + q / 64) 0 (omega arith) (omega arith) (omega arith))
    ∙ ap (λ (t : ℕ). bit_at (get_or lanes t 0) (q % 64)) (let same : at + q / 64 - at ≡ q / 64 = omega arith in same)
    ∙ sym (bit_of_its_word lanes q)

pub stored_other : (out : List ℕ) (at : ℕ) (lanes : List ℕ) (p : ℕ) → at + 2 ≤ length out → length lanes ≡ 2 → (p < 64 * at) ⊎ (64 * at + 128 ≤ p) → bit_of (stored out at lanes) p ≡ bit_of out p
stored_other out at lanes p fits long other =
    ap (λ (t : List ℕ). bit_of t p) (stored_is out at lanes fits long)
    ∙ bit_of_its_word (put_mid at (at + 2 - at) out lanes) p
    ∙ ap (λ (t : ℕ). bit_at t (p % 64)) (elim other [
      | inl below ↦ get_or-put_mid_below at (at + 2 - at) out lanes (p / 64) 0 (omega arith) (omega arith)
      | inr above ↦ get_or-put_mid_above at (at + 2 - at) out lanes (p / 64) 0 (omega arith) (omega arith) (omega arith)
    ])
    ∙ sym (bit_of_its_word out p)

-- words shifted into one another
abbrev pub funnelled : List ℕ → List ℕ → ℕ → List ℕ
funnelled low high s =
    zip2 bit_or (zip2 (λ (a b : ℕ). a / 2 ^ b) low (s ∷ s ∷ [])) (zip2 (λ (a b : ℕ). a * 2 ^ b % 2 ^ 64) (zip2 (λ (a b : ℕ). a * 2 ^ b % 2 ^ 64) high (1 ∷ 1 ∷ [])) ((63 - s) ∷ (63 - s) ∷ []))

pub funnelled_long : (low high : List ℕ) (s : ℕ) → length low ≡ 2 → length high ≡ 2 → length (funnelled low high s) ≡ 2
funnelled_long low high s l h =
    let right : ℕ → ℕ → ℕ = λ (a b : ℕ). a / 2 ^ b in
    let left : ℕ → ℕ → ℕ = λ (a b : ℕ). a * 2 ^ b % 2 ^ 64 in
    paired_long bit_or (zip2 right low (s ∷ s ∷ [])) (zip2 left (zip2 left high (1 ∷ 1 ∷ [])) ((63 - s) ∷ (63 - s) ∷ []))
    (paired_long right low (s ∷ s ∷ []) l refl) (paired_long left (zip2 left high (1 ∷ 1 ∷ [])) ((63 - s) ∷ (63 - s) ∷ []) (paired_long left high (1 ∷ 1 ∷ []) h refl) refl)

twice_at : (s k : ℕ) → k < 2 → get_or (s ∷ s ∷ []) k 0 ≡ s
twice_at s k lt = elim (cases_lt k 1) [
  | inl first ↦ ap (λ (t : ℕ). get_or (s ∷ s ∷ []) t 0) (let is : k ≡ 0 = omega arith in is)
  | inr second ↦ ap (λ (t : ℕ). get_or (s ∷ s ∷ []) t 0) (let is : k ≡ 1 = omega arith in is)
]

funnelled_word : (low high : List ℕ) (s k : ℕ) → length low ≡ 2 → length high ≡ 2 → k < 2
    → get_or (funnelled low high s) k 0 ≡ bit_or (get_or low k 0 / 2 ^ s) ((get_or high k 0 * 2 ^ 1 % 2 ^ 64) * 2 ^ (63 - s) % 2 ^ 64)
funnelled_word low high s k l h lt =
    let right : ℕ → ℕ → ℕ = λ (a b : ℕ). a / 2 ^ b in
    let left : ℕ → ℕ → ℕ = λ (a b : ℕ). a * 2 ^ b % 2 ^ 64 in
    let once = zip2 left high (1 ∷ 1 ∷ []) in
    let once_long : length once ≡ 2 = paired_long left high (1 ∷ 1 ∷ []) h refl in
    let twice = zip2 left once ((63 - s) ∷ (63 - s) ∷ []) in
    let twice_long : length twice ≡ 2 = paired_long left once ((63 - s) ∷ (63 - s) ∷ []) once_long refl in
    let lower = zip2 right low (s ∷ s ∷ []) in
    let lower_long : length lower ≡ 2 = paired_long right low (s ∷ s ∷ []) l refl in
    get_or-zip2 bit_or lower twice k 0 0 0 (omega arith) (omega arith)
    ∙ ap (λ (t : ℕ). bit_or t (get_or twice k 0)) (get_or-zip2 right low (s ∷ s ∷ []) k 0 0 0 (omega arith) lt ∙ ap (right (get_or low k 0)) (twice_at s k lt))
    ∙ ap (bit_or (get_or low k 0 / 2 ^ s)) (get_or-zip2 left once ((63 - s) ∷ (63 - s) ∷ []) k 0 0 0 (omega arith) lt
    ∙ ap (left (get_or once k 0)) (twice_at (63 - s) k lt)
    ∙ ap (λ (t : ℕ). left t (63 - s)) (get_or-zip2 left high (1 ∷ 1 ∷ []) k 0 0 0 (omega arith) lt ∙ ap (left (get_or high k 0)) (twice_at 1 k lt)))

pub ahead_bit : (words : List ℕ) (at s q : ℕ) → ((k : ℕ) → get_or words k 0 < 2 ^ 64) → s < 64 → at + 3 ≤ length words → q < 128
    → bit_of (funnelled (chunk 0 2 (take (at + 2 - at) (drop at words))) (chunk 0 2 (take (at + 3 - (at + 1)) (drop (at + 1) words))) s) q ≡ bit_of words (64 * at + s + q)
ahead_bit words at s q fit small fits lt =
    let low = chunk 0 2 (take (at + 2 - at) (drop at words)) in
    let high = chunk 0 2 (take (at + 3 - (at + 1)) (drop (at + 1) words)) in
    let low_long : length low ≡ 2 = loaded_long words at (at + 2) refl (omega arith) in
    let high_long : length high ≡ 2 = loaded_long words (at + 1) (at + 3) (omega arith) fits in
    let k = q / 64 in
    let i = q % 64 in
    let start = 64 * at + s in
    let word : start / 64 ≡ at = omega arith in
    let shift : start % 64 ≡ s = omega arith in
    let made = get_or (funnelled low high s) k 0 in
    let low-is : get_or low k 0 ≡ get_or words (start / 64 + k) 0 = loaded_word words at (at + 2) k refl (omega arith) (omega arith) ∙ ap (λ (t : ℕ). get_or words (t + k) 0) (sym word) in
    let next : at + 1 + k ≡ start / 64 + k + 1 = omega arith in
    let high-is : get_or high k 0 ≡ get_or words (start / 64 + k + 1) 0 = loaded_word words (at + 1) (at + 3) k (omega arith) fits (omega arith) ∙ ap (λ (t : ℕ). get_or words t 0) next in
    let low_fits : get_or low k 0 < 2 ^ 64 = omega (arith, low-is, fit (start / 64 + k)) in
    let is = funnelled_word low high s k low_long high_long (omega arith) in
    let funnel : IsFunnel (get_or low k 0) (get_or high k 0) s made = record {
      below = λ b within. ap (λ (t : ℕ). bit_at t b) is ∙ funnel_below (get_or low k 0) (get_or high k 0) s b small within;
      above = λ b less past. ap (λ (t : ℕ). bit_at t b) is ∙ funnel_above (get_or low k 0) (get_or high k 0) s b small low_fits less past;
    } in
    let there : start + (64 * k + i) ≡ start + q = omega arith in
    bit_of_its_word (funnelled low high s) q
    ∙ funnel_at words start (get_or low k 0) (get_or high k 0) made k low-is high-is (turn start funnel shift) i (omega arith)
    ∙ ap (bit_of words) there
  where
    turn : (start : ℕ) {low high s made : ℕ} → IsFunnel low high s made → start % 64 ≡ s → IsFunnel low high (start % 64) made
    turn start {low = low} {high = high} {s = s} {made = made} f e = record { below = λ b within. f.below b (omega arith) ∙ ap (λ (t : ℕ). bit_at low (t + b)) (sym e); above = λ b less past. f.above b less (omega arith) ∙ ap (λ (t : ℕ). bit_at high (t + b - 64)) (sym e) }
