-- Bits that are written over others in one word.
use Rattle.std.proofs.Common.{◌≡◌, ℕ, ◌+◌, ◌-◌, ◌*◌, ◌/◌, ◌%◌, ◌^◌, ◌<◌, ◌≤◌, List, length, set, get_or, ap, sym, subst, arith, ◌∙◌, inl, inr}
use Rattle.std.specs.Int.{bit_at}
use Rattle.std.proofs.lemmas.Bool.{cases_eq}
use Rattle.std.proofs.lemmas.List.{get_or-set_same, get_or-set_other}
use Rattle.std.proofs.lemmas.Nat.{shr-shr}
use Rattle.mw_tile.specs.mw_pixel_words.Packed.{bit_of}
use Rattle.mw_tile.specs.mw_pixel_words.Runs.{IsBlended}
use Rattle.mw_tile.proofs.mw_pixel_words.Bits.{bit_of_word, bit_of_its_word}
use Rattle.mw_tile_pieces.specs.declared.blocks.Block.{Block}
use Rattle.mw_tile_pieces.specs.Blocks.{CopiesRun, IsPasted}
use Rattle.mw_tile_pieces.proofs.Pasted.{upper, pasted_down}

word_run : (words from : List ℕ) (to at lead skip count word : ℕ) → lead + count ≤ 64 → skip + count ≤ 64 → to < length words → IsBlended lead count (get_or words to 0) (get_or from at 0 / 2 ^ skip) word
    → CopiesRun (bit_of words) (bit_of (set words to word)) (bit_of from) (64 * to + lead) (64 * at + skip) count
word_run words from to at lead skip count word room other lt blend = record {
  copied = λ i less.
      let back : lead + i - lead ≡ i = omega arith in
      here (lead + i) (64 * to + lead + i) (omega arith) (omega arith)
      ∙ blend.inside (lead + i) (omega arith) (omega arith)
      ∙ ap (bit_at (get_or from at 0 / 2 ^ skip)) back
      ∙ ap (λ (t : ℕ). t % 2) (shr-shr (get_or from at 0) skip i)
      ∙ sym (bit_of_word from at (skip + i) (64 * at + skip + i) (omega arith) (omega arith));
  kept = λ p out. elim (cases_eq (p / 64) to) [
    | inr elsewhere ↦
        bit_of_its_word (set words to word) p ∙ ap (λ (t : ℕ). bit_at t (p % 64)) (get_or-set_other words to (p / 64) word 0 elsewhere) ∙ sym (bit_of_its_word words p)
    | inl same ↦
        let p-is : p ≡ 64 * to + p % 64 = omega arith in
        let less : p % 64 < 64 = omega arith in
        here (p % 64) p less p-is
        ∙ elim out [
          | inl ahead ↦ blend.below (p % 64) (omega arith)
          | inr behind ↦ blend.above (p % 64) (omega arith) less
        ]
        ∙ sym (bit_of_word words to (p % 64) p less p-is)
  ];
}
  where
    here : (b p : ℕ) → b < 64 → p ≡ 64 * to + b → bit_of (set words to word) p ≡ bit_at word b
    here b p less p-is = bit_of_word (set words to word) to b p less p-is ∙ ap (λ (t : ℕ). bit_at t b) (get_or-set_same words to word 0 lt)

-- the word of a row, where rows have whole words
row_bits : (wide n : ℕ) → wide % 64 ≡ 0 → n * wide ≡ 64 * (n * (wide / 64))
row_bits wide n whole = let wide-is : wide ≡ 64 * (wide / 64) = omega arith in ap (λ (t : ℕ). n * t) wide-is ∙ omega arith

pub word_in : (start wide width n total : ℕ) → wide % 64 ≡ 0 → 0 < width → start + (n * wide + width) ≤ 64 * total → start / 64 + n * (wide / 64) < total
word_in start wide width n total whole some room = omega (arith, row_bits wide n whole)

pub place_is : (start wide n : ℕ) → wide % 64 ≡ 0 → 64 * (start / 64 + n * (wide / 64)) + start % 64 ≡ start + n * wide
place_is start wide n whole = omega (arith, row_bits wide n whole)

pub words_down : (b : Block) (n word : ℕ) (old now from : List ℕ) → b.wide % 64 ≡ 0 → b.own % 64 ≡ 0 → b.start % 64 + b.width ≤ 64 → b.first % 64 + b.width ≤ 64 → b.width ≤ b.wide → b.start / 64 + n * (b.wide / 64) < length now
    → IsBlended (b.start % 64) b.width (get_or now (b.start / 64 + n * (b.wide / 64)) 0) (get_or from (b.first / 64 + n * (b.own / 64)) 0 / 2 ^ (b.first % 64)) word
    → IsPasted (upper b n) (bit_of old) (bit_of now) (bit_of from) → IsPasted (upper b (n + 1)) (bit_of old) (bit_of (set now (b.start / 64 + n * (b.wide / 64)) word)) (bit_of from)
words_down b n word old now from whole whole_other here there across lt blend before =
    let to = b.start / 64 + n * (b.wide / 64) in
    let at = b.first / 64 + n * (b.own / 64) in
    let next = bit_of (set now to word) in
    let run = word_run now from to at (b.start % 64) (b.first % 64) b.width word here there lt blend in
    pasted_down b n (bit_of old) (bit_of now) next (bit_of from) across
    (subst (λ (t : ℕ). CopiesRun (bit_of now) next (bit_of from) t (b.first + n * b.own) b.width) (place_is b.start b.wide n whole)
    (subst (λ (t : ℕ). CopiesRun (bit_of now) next (bit_of from) (64 * to + b.start % 64) t b.width) (place_is b.first b.own n whole_other) run))
    before
