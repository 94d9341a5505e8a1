-- Sets of all pixels, and of none.
use Rattle.std.proofs.Common.{◌≡◌, ℕ, ◌+◌, ◌-◌, ◌*◌, ◌/◌, ◌%◌, ◌^◌, ◌<◌, List, length, replicate, ap, sym, arith, ◌∙◌}
use Rattle.std.specs.Int.{bit_at}
use Rattle.std.proofs.lemmas.List.{length-replicate}
use Rattle.std.proofs.lemmas.Nat.{mul-add-lt}
use Rattle.std.proofs.lemmas.Nat.Bits.{bit_at-zero, bit_at_ones}
use Rattle.std.proofs.lemmas.Simd.{get_or-replicate}
use Rattle.mw_model.proofs.mw_facts.Elements.{get_or-replicate_same}
use Rattle.mw_pixel_words.specs.Packed.{bit_of, stride_of, samples_of, IsPacked}
use Rattle.mw_pixel_words.proofs.Bits.{bit_of_its_word, samples_are_bits, rows_fit}
use Rattle.mw_pixel_words.proofs.Done.{blank_bit}

no_bit : (n q : ℕ) → bit_of (replicate n 0) q ≡ 0
no_bit n q = bit_of_its_word (replicate n 0) q ∙ ap (λ (t : ℕ). bit_at t (q % 64)) (get_or-replicate_same n (q / 64) 0) ∙ bit_at-zero (q % 64)

pub none_packed : (w h : ℕ) (words : List ℕ) → words ≡ replicate (h * stride_of w) 0 → IsPacked w h words
none_packed w h words words-is = record {
  size = ap length words-is ∙ length-replicate (h * stride_of w) 0;
  clean = λ x y row_less past less. ap (λ (t : List ℕ). bit_of t (y * (64 * stride_of w) + x)) words-is ∙ no_bit (h * stride_of w) (y * (64 * stride_of w) + x);
}

pub none_samples : (w h : ℕ) (words : List ℕ) → words ≡ replicate (h * stride_of w) 0 → samples_of w h words ≡ replicate (h * w) 0
none_samples w h words words-is =
    sym (samples_are_bits w h words (replicate (h * w) 0) (length-replicate (h * w) 0)
    (λ x y lt row_less.
    get_or-replicate_same (h * w) (y * w + x) 0
    ∙ sym (ap (λ (t : List ℕ). bit_of t (y * (64 * stride_of w) + x)) words-is ∙ no_bit (h * stride_of w) (y * (64 * stride_of w) + x))))

pub all_samples : (w h : ℕ) (ones words : List ℕ) → ones ≡ replicate (h * stride_of w) (2 ^ 64 - 1) → ((x y : ℕ) → x < w → y < h → bit_of words (y * (64 * stride_of w) + x) ≡ bit_of ones (y * (64 * stride_of w) + x))
    → samples_of w h words ≡ replicate (h * w) 1
all_samples w h ones words ones-is bits =
    sym (samples_are_bits w h words (replicate (h * w) 1) (length-replicate (h * w) 1)
    (λ x y lt row_less.
    let at = y * (64 * stride_of w) + x in
    let wide : x < 64 * stride_of w = omega arith in
    let inside : at < 64 * (h * stride_of w) = omega (arith, rows_fit y h (64 * stride_of w) row_less) in
    get_or-replicate (h * w) (y * w + x) 1 0 (omega (arith, mul-add-lt y w x h row_less lt))
    ∙ sym (bits x y lt row_less ∙ ap (λ (t : List ℕ). bit_of t at) ones-is ∙ blank_bit (h * stride_of w) (2 ^ 64 - 1) 1 at inside (λ i less. bit_at_ones 64 i less))))
