use Rattle.std.proofs.Common.{◌≡◌, ℕ, ◌*◌, List, length, ap, sym, ◌∙◌, arith}
use Rattle.mw_model.proofs.mw_facts.Elements.{take-written}
use Rattle.mw_model.specs.declared.offsets.Rect.{Rect}
use Rattle.mw_model.specs.Rasters.{Raster}
use Rattle.mw_offset.specs.mw_pixel_words.Packed.{bit_of, stride_of, samples_of, IsPacked}
use Rattle.mw_bits.proofs.Pairings.{paired_samples, paired_packed}
use Rattle.mw_bits.proofs.pairs.paired.Goals as goal
use lib.Lanes.{zip2}

pub plane_of-requires : goal.plane_of-requires
plane_of-requires g c =
    let f = g.O.PairOfWords.of_two in
    let place = c.args.a.now.place in
    let first = c.words_of-first.result.now in
    let second = c.words_of-other.result.now in
    let out = c.merge_words.new.words in
    let whole : length out ≡ c.in_ok-words.words.len = omega arith in
    let old-is : c.as_mut_slice.result.now ≡ first = c.as_mut_slice.ensures.value ∙ c.in_ok-words.ensures.items in
    let size : length c.as_mut_slice.result.now ≡ place.height * stride_of place.width = ap length old-is ∙ c.words_of-first.ensures.packed.size in
    let other : IsPacked place.width place.height second = rw c.requires c.words_of-other.ensures.packed in
    rw (take-written c.in_ok-words.words.items out c.in_ok-words.words.len whole, c.place-place.ensures.value)
    (paired_packed f place.width place.height first second out g.met.O.PairOfWords.none_of_none (c.merge_words.auto.words ∙ ap length old-is) c.words_of-first.ensures.packed other
    (λ q lt. c.merge_words.ensures q (omega (arith, size, lt)) ∙ ap (λ (t : List ℕ). f (bit_of t q) (bit_of second q)) old-is))

pub returns-clause-cells : goal.returns-clause-cells
returns-clause-cells g c =
    let f = g.O.PairOfWords.of_two in
    let a = c.args.a.now in
    let place = a.place in
    let first = c.words_of-first.result.now in
    let second = c.words_of-other.result.now in
    let out = c.merge_words.new.words in
    let whole : length out ≡ c.in_ok-words.words.len = omega arith in
    let old-is : c.as_mut_slice.result.now ≡ first = c.as_mut_slice.ensures.value ∙ c.in_ok-words.ensures.items in
    let size : length c.as_mut_slice.result.now ≡ place.height * stride_of place.width = ap length old-is ∙ c.words_of-first.ensures.packed.size in
    let other-is : samples_of place.width place.height second ≡ c.args.b.now.cells = ap (λ (t : Rect). samples_of t.width t.height second) c.requires ∙ sym c.words_of-other.ensures.samples in
    ap (λ (r : Raster ℕ). r.cells) c.plane_of.ensures
    ∙ ap (λ (t : List ℕ). samples_of c.place-place.result.width c.place-place.result.height t) (take-written c.in_ok-words.words.items out c.in_ok-words.words.len whole)
    ∙ ap (λ (t : Rect). samples_of t.width t.height out) c.place-place.ensures.value
    ∙ paired_samples f place.width place.height first second out (λ q lt. c.merge_words.ensures q (omega (arith, size, lt)) ∙ ap (λ (t : List ℕ). f (bit_of t q) (bit_of second q)) old-is)
    ∙ ap (λ (t : List ℕ). zip2 f t (samples_of place.width place.height second)) (sym c.words_of-first.ensures.samples)
    ∙ ap (zip2 f a.cells) other-is
