-- Words whose bits are all one.
use Rattle.std.proofs.Common.{◌≡◌, ℕ, ◌+◌, ◌-◌, ◌*◌, ◌/◌, ◌%◌, ◌^◌, ◌<◌, ◌≤◌, min, bit_and, List, length, take, get_or, w64, refl, subst, ap, sym, arith, ◌∙◌, inl, inr, length-take}
use Rattle.std.specs.Int.{bit_at, trailing_zeros}
use Rattle.std.proofs.lemmas.Bool.{cases_lt}
use Rattle.std.proofs.lemmas.List.{get_or_past, get_or-take}
use Rattle.std.proofs.lemmas.Nat.Bits.{bit_at_and, bit_at_ones, bit_at-lt, bit_at-zero, bit_at-trailing_zeros}
use Rattle.std.proofs.lemmas.Nat.{mul-add-lt, div_below, mod_below, div-add-mod'}
use Rattle.mw_model.proofs.mw_facts.Numbers.{factor-positive}
use Rattle.mw_offset.specs.mw_pixel_words.Packed.{bit_of, stride_of, samples_of, IsPacked}
use Rattle.mw_offset.proofs.mw_pixel_words.Bits.{bit_of_its_word, bit_of_past, bit_of_word, length-samples_of, sample_is_bit}
use Rattle.mw_bits.specs.Uniform.{HasOnly}
use mir.Val.{Fits}

pub clear_bit : (words : List ℕ) → ((k : ℕ) → k < length words → get_or words k 0 ≡ 0) → (q : ℕ) → bit_of words q ≡ 0
clear_bit words clear q =
    bit_of_its_word words q
    ∙ ap (λ (t : ℕ). bit_at t (q % 64)) (elim (cases_lt (q / 64) (length words)) [ inl inside ↦ clear (q / 64) inside | inr past ↦ get_or_past words (q / 64) 0 past ])
    ∙ bit_at-zero (q % 64)

-- a word that is not 0 has a bit
pub some_bit : (words : List ℕ) (k : ℕ) → (get_or words k 0 ≡ 0 → ⊥) → Fits w64 (get_or words k 0) → ((q : ℕ) → bit_of words q ≡ 0) → ⊥
some_bit words k some fits none =
    let word = get_or words k 0 in
    let place = trailing_zeros w64 word in
    let lowest = bit_at-trailing_zeros w64 word (omega arith) fits.fits in
    let is = bit_of_word words k place (64 * k + place) lowest.0 refl in
    omega (arith, is, none (64 * k + place), lowest.1)

-- what holds at each place of a set and at each bit past its width, and past its words, holds of all bits
pub at_all_bits : (w h : ℕ) (words : List ℕ) (P : ℕ → Type 0) → IsPacked w h words → ((x y : ℕ) → x < w → y < h → P (y * (64 * stride_of w) + x))
    → ((q : ℕ) → bit_of words q ≡ 0 → P q) → (q : ℕ) → P q
at_all_bits w h words P packed inside none q =
    elim (cases_lt q (64 * length words)) [
      | inr past ↦ none q (bit_of_past words q past)
      | inl within ↦
          let wide = 64 * stride_of w in
          let few : q < h * wide = omega (arith, packed.size) in
          let some = factor-positive q h wide few in
          let y = q / wide in
          let x = q % wide in
          let row_less : y < h = div_below q wide h some few in
          let less : x < wide = mod_below q wide some in
          let split : y * wide + x ≡ q = div-add-mod' q wide in
          subst P split (elim (cases_lt x w) [
            | inl here ↦ inside x y here row_less
            | inr behind ↦ none (y * wide + x) (packed.clean x y row_less behind less)
          ])
    ]

-- a blank set has no bit
pub blank_bits : (w h : ℕ) (words cells : List ℕ) → cells ≡ samples_of w h words → IsPacked w h words → HasOnly 0 cells → (q : ℕ) → bit_of words q ≡ 0
blank_bits w h words cells cells-is packed only =
    at_all_bits w h words (λ (q : ℕ). bit_of words q ≡ 0) packed
    (λ x y less row_less.
    let inside : y * w + x < length cells = omega (arith, ap length cells-is, length-samples_of w h words, mul-add-lt y w x h row_less less) in
    sym (sample_is_bit w h words x y less row_less) ∙ sym (ap (λ (t : List ℕ). get_or t (y * w + x) 0) cells-is) ∙ only (y * w + x) inside)
    (λ q none. none)

pub full_bit : (words : List ℕ) → ((k : ℕ) → k < length words → get_or words k 0 ≡ 2 ^ 64 - 1) → (q : ℕ) → q < 64 * length words → bit_of words q ≡ 1
full_bit words full q lt = bit_of_its_word words q ∙ ap (λ (t : ℕ). bit_at t (q % 64)) (full (q / 64) (omega arith)) ∙ bit_at_ones 64 (q % 64) (omega arith)

pub lowest_set : (word count mask i : ℕ) → mask ≡ 2 ^ count - 1 → bit_and word mask ≡ mask → i < count → bit_at word i ≡ 1
lowest_set word count mask i mask-is all lt =
    let one : bit_at mask i ≡ 1 = ap (λ (t : ℕ). bit_at t i) mask-is ∙ bit_at_ones count i lt in
    let both : min (bit_at word i) (bit_at mask i) ≡ bit_at mask i = sym (bit_at_and word mask i) ∙ ap (λ (t : ℕ). bit_at t i) all in
    omega (arith, one, both, bit_at-lt word i)

-- a row of full words and a last one with its lowest bits
pub full_row : (row : List ℕ) (width whole x : ℕ) → whole ≡ width / 64 → ((q : ℕ) → q < 64 * whole → bit_of row q ≡ 1) → (0 < width % 64 → (i : ℕ) → i < width % 64 → bit_at (get_or row whole 0) i ≡ 1) → x < width → bit_of row x ≡ 1
full_row row width whole x whole-is front last lt =
    elim (cases_lt x (64 * whole)) [
      | inl inside ↦ front x inside
      | inr past ↦ bit_of_word row whole (x - 64 * whole) x (omega arith) (omega arith) ∙ last (omega arith) (x - 64 * whole) (omega arith)
    ]

pub full_front : (row : List ℕ) (whole : ℕ) → whole ≤ length row → ((q : ℕ) → q < 64 * length (take whole row) → bit_of (take whole row) q ≡ 1) → (q : ℕ) → q < 64 * whole → bit_of row q ≡ 1
full_front row whole le full q lt =
    let inside : q / 64 < whole = omega arith in
    bit_of_its_word row q
    ∙ ap (λ (t : ℕ). bit_at t (q % 64)) (sym (get_or-take whole row (q / 64) 0 inside))
    ∙ sym (bit_of_its_word (take whole row) q)
    ∙ full q (omega (arith, length-take whole row))
