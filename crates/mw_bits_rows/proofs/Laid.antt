-- The bits of words as one list of samples.
use Rattle.std.proofs.Common.{◌≡◌, ℕ, ◌+◌, ◌-◌, ◌*◌, ◌/◌, ◌<◌, ◌≤◌, List, length, get_or, ap, sym, arith, ◌∙◌}
use Rattle.std.proofs.lemmas.List.{get_or_past}
use Rattle.std.proofs.lemmas.List.FromFn.{get_or-map-range_with_len, length-map-range_with_len}
use Rattle.mw_line.specs.Extrema.{strided}
use Rattle.mw_line.proofs.Folds.{IsExtremum}
use Rattle.mw_line.proofs.Joined.{Taken, strided-joined, taken_within, taken_fits}
use Rattle.mw_line.specs.mw_pixel_words.Packed.{bit_of}
use Rattle.mw_bits_rows.specs.Rows.{laid_bits}

pub length-laid_bits : (words : List ℕ) → length (laid_bits words) ≡ 64 * (length words - 1)
unfolding laid_bits
length-laid_bits words = length-map-range_with_len (bit_of words) 0 (64 * (length words - 1))

pub laid_bit : (words : List ℕ) (q d : ℕ) → q < 64 * (length words - 1) → get_or (laid_bits words) q d ≡ bit_of words q
unfolding laid_bits
laid_bit words q d lt = get_or-map-range_with_len (bit_of words) 0 (64 * (length words - 1)) q q d lt (omega arith)

-- words that were merged with those further on
pub laid_ahead : (f : ℕ → ℕ → ℕ) (cells made : List ℕ) (s : ℕ) → 0 < s → length made ≡ length cells → 2 * s ≤ 64 * (length cells - 1)
    → ((q : ℕ) → q < 64 * (length cells - 1 - s / 64) → bit_of made q ≡ f (bit_of cells q) (bit_of cells (s + q)))
    → (p d : ℕ) → p < 64 * (length cells - 1) - 2 * s + 1 → get_or (laid_bits made) p d ≡ f (get_or (laid_bits cells) p d) (get_or (laid_bits cells) (p + s) d)
laid_ahead f cells made s some size room made-is p d lt =
    let turn : s + p ≡ p + s = omega arith in
    laid_bit made p d (omega arith)
    ∙ made-is p (omega arith)
    ∙ ap (λ (t : ℕ). f t (bit_of cells (s + p))) (sym (laid_bit cells p d (omega arith)))
    ∙ ap (λ (t : ℕ). f (get_or (laid_bits cells) p d) (bit_of cells t)) turn
    ∙ ap (f (get_or (laid_bits cells) p d)) (sym (laid_bit cells (p + s) d (omega arith)))

-- words that were merged with those a shift further on, of which so many bits were left
pub laid_shifted : (f : ℕ → ℕ → ℕ) (cells made : List ℕ) (shift count : ℕ) → length made ≡ length cells → count + shift ≤ 64 * (length cells - 1)
    → ((q : ℕ) → q < 64 * (length cells - 1 - shift / 64) → bit_of made q ≡ f (bit_of cells q) (bit_of cells (shift + q)))
    → (p d : ℕ) → p < count → get_or (laid_bits made) p d ≡ f (get_or (laid_bits cells) p d) (get_or (laid_bits cells) (p + shift) d)
laid_shifted f cells made shift count size room made-is p d lt =
    let turn : shift + p ≡ p + shift = omega arith in
    laid_bit made p d (omega arith)
    ∙ made-is p (omega arith)
    ∙ ap (λ (t : ℕ). f t (bit_of cells (shift + p))) (sym (laid_bit cells p d (omega arith)))
    ∙ ap (λ (t : ℕ). f (get_or (laid_bits cells) p d) (bit_of cells t)) turn
    ∙ ap (f (get_or (laid_bits cells) p d)) (sym (laid_bit cells (p + shift) d (omega arith)))

-- one pass more of the doubling, over the bits of all words but the last
pub slid_more : (f : ℕ → ℕ → ℕ) → IsExtremum f → (old now made : List ℕ) (s k taken left j shift rest more : ℕ) → length now ≡ length old → length made ≡ length now
    → Taken f (laid_bits old) (64 * (length old - 1)) s k taken left (laid_bits now) → j ≤ taken → taken + j ≤ k → k * s < 64 * (length old - 1) + s → shift ≡ j * s → rest ≡ left - shift → more ≡ taken + j
    → ((q : ℕ) → q < 64 * (length now - 1 - shift / 64) → bit_of made q ≡ f (bit_of now q) (bit_of now (shift + q)))
    → Taken f (laid_bits old) (64 * (length old - 1)) s k more rest (laid_bits made)
slid_more f laws old now made s k taken left j shift rest more same size before short within room shift-is rest-is more-is made-is =
    let whole = length-laid_bits old in
    let now_whole = length-laid_bits now in
    let made_whole = length-laid_bits made in
    let inside = taken_within f (laid_bits old) (64 * (length old - 1)) s k taken left (laid_bits now) before in
    let fits : j * s ≤ left = taken_fits f (laid_bits old) (64 * (length old - 1)) s k taken left j (laid_bits now) before within room in
    record {
      positive = omega (arith, before.positive);
      within = omega arith;
      size = omega arith;
      left_is = rw (more-is, rest-is, shift-is) (omega (arith, before.left_is, fits));
      done = λ p d lt.
          laid_shifted f now made shift rest size (omega arith) made-is p d lt
          ∙ ap (λ (t : _). f t (get_or (laid_bits now) (p + shift) d)) (before.done p d (omega arith))
          ∙ ap (f (strided f (laid_bits old) d s (taken - 1) p)) (before.done (p + shift) d (omega arith) ∙ ap (λ (t : ℕ). strided f (laid_bits old) d s (taken - 1) (p + t)) shift-is)
          ∙ strided-joined f laws (laid_bits old) d s j (taken - 1) (taken - 1) p (omega (arith, before.positive)) (omega arith)
          ∙ ap (λ (t : ℕ). strided f (laid_bits old) d s t p) (count_on before.positive);
      past = λ p d far. get_or_past (laid_bits made) p d (omega arith) ∙ sym (get_or_past (laid_bits old) p d (omega arith));
    }
  where
    count_on : 0 < taken → j + (taken - 1) ≡ more - 1
    count_on positive = omega (arith, more-is)
