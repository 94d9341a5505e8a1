-- Sets that are put together place by place.
use Rattle.std.proofs.Common.{◌≡◌, ℕ, ◌+◌, ◌-◌, ◌*◌, ◌/◌, ◌%◌, ◌<◌, List, [], length, get_or, map, w64, refl, ap, sym, arith, ◌∙◌, inl, inr}
use Rattle.std.specs.Int.{bit_at, trailing_zeros}
use Rattle.std.proofs.lemmas.Bool.{cases_lt}
use Rattle.std.proofs.lemmas.List.{get_or-map, length-map}
use Rattle.std.proofs.lemmas.Nat.{mul-add-lt}
use Rattle.std.proofs.lemmas.Nat.Bits.{bit_at-trailing_zeros}
use Rattle.std.proofs.lemmas.Simd.{get_or-zip2, length-zip2}
use Rattle.mw_offset.proofs.mw_line.Rows.{rows_fit}
use Rattle.mw_offset.specs.mw_pixel_words.Packed.{bit_of, stride_of, samples_of, IsPacked}
use Rattle.mw_offset.proofs.mw_pixel_words.Bits.{bit_of_its_word, bit_of_past, bit_of_word, length-samples_of, sample_is_bit, samples_are_bits}
use Rattle.mw_bits_rows.proofs.Packs.{stride_wide}
use Rattle.mw_bits.specs.Uniform.{HasOnly}
use Rattle.mw_bits.proofs.UniformSeen.{only_of_bits}
use Rattle.mw_bits.proofs.UniformWords.{at_all_bits}
use lib.Lanes.{zip2}
use mir.Val.{Fits}

-- a place of a row lies in the words
place_lies : (w h x y : ℕ) → x < 64 * stride_of w → y < h → y * (64 * stride_of w) + x < 64 * (h * stride_of w)
place_lies w h x y lt row_lt = let fits = rows_fit y h (64 * stride_of w) row_lt in omega (arith, fits)

pub paired_samples : (f : ℕ → ℕ → ℕ) (w h : ℕ) (a b made : List ℕ) → ((q : ℕ) → q < 64 * (h * stride_of w) → bit_of made q ≡ f (bit_of a q) (bit_of b q))
    → samples_of w h made ≡ zip2 f (samples_of w h a) (samples_of w h b)
paired_samples f w h a b made made-is =
    let first = length-samples_of w h a in
    let second = length-samples_of w h b in
    sym (samples_are_bits w h made (zip2 f (samples_of w h a) (samples_of w h b)) (length-zip2 f (samples_of w h a) (samples_of w h b) (first ∙ sym second) ∙ first)
    (λ x y less row_less.
    let at = y * w + x in
    let inside : at < h * w = omega (arith, mul-add-lt y w x h row_less less) in
    get_or-zip2 f (samples_of w h a) (samples_of w h b) at 0 0 0 (omega (arith, first, inside)) (omega (arith, second, inside))
    ∙ ap (λ (t : ℕ). f t (get_or (samples_of w h b) at 0)) (sample_is_bit w h a x y less row_less)
    ∙ ap (f (bit_of a (y * (64 * stride_of w) + x))) (sample_is_bit w h b x y less row_less)
    ∙ sym (made-is (y * (64 * stride_of w) + x) (place_lies w h x y (stride_wide w x less) row_less))))

pub paired_packed : (f : ℕ → ℕ → ℕ) (w h : ℕ) (a b made : List ℕ) → f 0 0 ≡ 0 → length made ≡ length a → IsPacked w h a → IsPacked w h b
    → ((q : ℕ) → q < 64 * (h * stride_of w) → bit_of made q ≡ f (bit_of a q) (bit_of b q)) → IsPacked w h made
paired_packed f w h a b made none size first second made-is = record {
  size = size ∙ first.size;
  clean = λ x y row_less past less.
      made-is (y * (64 * stride_of w) + x) (place_lies w h x y less row_less)
      ∙ ap (λ (t : ℕ). f t (bit_of b (y * (64 * stride_of w) + x))) (first.clean x y row_less past less)
      ∙ ap (f 0) (second.clean x y row_less past less)
      ∙ none;
}

-- samples that are made from those of other words, place by place
pub mapped_samples : (f : ℕ → ℕ) (w h : ℕ) (a made : List ℕ)
    → ((x y : ℕ) → x < w → y < h → bit_of made (y * (64 * stride_of w) + x) ≡ f (bit_of a (y * (64 * stride_of w) + x)))
    → samples_of w h made ≡ map f (samples_of w h a)
mapped_samples f w h a made made-is =
    let size = length-samples_of w h a in
    sym (samples_are_bits w h made (map f (samples_of w h a)) (length-map (samples_of w h a) f ∙ size)
    (λ x y less row_less.
    let at = y * w + x in
    let inside : at < h * w = omega (arith, mul-add-lt y w x h row_less less) in
    get_or-map f (samples_of w h a) at 0 0 (omega (arith, size, inside)) ∙ ap f (sample_is_bit w h a x y less row_less) ∙ sym (made-is x y less row_less)))

pub flipped_place : (w h x y n : ℕ) → n ≡ h * stride_of w → x < w → y < h → y * (64 * stride_of w) + x < 64 * n
flipped_place w h x y n n-is less row_less = let lies = place_lies w h x y (stride_wide w x less) row_less in omega (arith, lies, n-is)

-- words of which no bit is outside others
pub none_outside : (words others : List ℕ) → ((k : ℕ) → k < length words → (i : ℕ) → i < 64 → bit_at (get_or words k 0) i - bit_at (get_or others k 0) i ≡ 0) → (q : ℕ) → bit_of words q - bit_of others q ≡ 0
none_outside words others none q =
    elim (cases_lt (q / 64) (length words)) [
      | inl inside ↦
          ap (λ (t : ℕ). t - bit_of others q) (bit_of_its_word words q)
          ∙ ap (λ (t : ℕ). bit_at (get_or words (q / 64) 0) (q % 64) - t) (bit_of_its_word others q)
          ∙ none (q / 64) inside (q % 64) (omega arith)
      | inr past ↦ let blank = bit_of_past words q (omega arith) in omega (arith, blank)
    ]

-- and their samples
pub paired_none : (w h : ℕ) (words others a b : List ℕ) → a ≡ samples_of w h words → b ≡ samples_of w h others → ((q : ℕ) → bit_of words q - bit_of others q ≡ 0) → HasOnly 0 (zip2 (λ (m n : ℕ). m - n) a b)
paired_none w h words others a b a-is b-is none =
    let less : ℕ → ℕ → ℕ = λ m n. m - n in
    only_of_bits 0 w h [] (zip2 less a b)
    (ap (λ (t : List ℕ). zip2 less t b) a-is ∙ ap (zip2 less (samples_of w h words)) b-is ∙ sym (paired_samples less w h words others [] (λ q lt. bit_of_past [] q (omega arith) ∙ sym (none q))))
    (λ x y lt row_lt. bit_of_past [] _ (omega arith))

-- a word of which a bit is outside the other
pub some_outside : (words others : List ℕ) (k less : ℕ) → (less ≡ 0 → ⊥) → Fits w64 less → ((i : ℕ) → i < 64 → bit_at less i ≡ bit_at (get_or words k 0) i - bit_at (get_or others k 0) i)
    → ((q : ℕ) → bit_of words q - bit_of others q ≡ 0) → ⊥
some_outside words others k less some fits less-is none =
    let place = trailing_zeros w64 less in
    let lowest = bit_at-trailing_zeros w64 less (omega arith) fits.fits in
    let first = bit_of_word words k place (64 * k + place) lowest.0 refl in
    let second = bit_of_word others k place (64 * k + place) lowest.0 refl in
    omega (arith, first, second, less-is place lowest.0, none (64 * k + place), lowest.1)

-- nothing of the samples is outside the others, nor any bit
pub within_bits : (w h : ℕ) (words others a b : List ℕ) → a ≡ samples_of w h words → b ≡ samples_of w h others → IsPacked w h words → HasOnly 0 (zip2 (λ (m n : ℕ). m - n) a b)
    → (q : ℕ) → bit_of words q - bit_of others q ≡ 0
within_bits w h words others a b a-is b-is packed only =
    let less : ℕ → ℕ → ℕ = λ m n. m - n in
    let first = ap length a-is ∙ length-samples_of w h words in
    let second = ap length b-is ∙ length-samples_of w h others in
    at_all_bits w h words (λ (q : ℕ). bit_of words q - bit_of others q ≡ 0) packed
    (λ x y lt row_lt.
    let at = y * w + x in
    let place = y * (64 * stride_of w) + x in
    let inside : at < h * w = omega (arith, mul-add-lt y w x h row_lt lt) in
    let both = get_or-zip2 less a b at 0 0 0 (omega (arith, first, inside)) (omega (arith, second, inside)) in
    let one : get_or a at 0 ≡ bit_of words place = ap (λ (t : List ℕ). get_or t at 0) a-is ∙ sample_is_bit w h words x y lt row_lt in
    let other : get_or b at 0 ≡ bit_of others place = ap (λ (t : List ℕ). get_or t at 0) b-is ∙ sample_is_bit w h others x y lt row_lt in
    let none = only at (omega (arith, length-zip2 less a b (first ∙ sym second), first, inside)) in
    omega (arith, both, one, other, none))
    (λ q none. omega (arith, none))
