use Rattle.std.proofs.Common.{◌≡◌, ℕ, ◌-◌, ◌+◌, ◌*◌, ◌<◌, List, length, map, ap, sym, ◌∙◌, arith}
use Rattle.mw_model.proofs.mw_facts.Elements.{take-written}
use Rattle.mw_model.specs.declared.offsets.Rect.{Rect}
use Rattle.mw_model.specs.Rasters.{Raster}
use Rattle.mw_offset.proofs.mw_line.Rows.{rows_fit}
use Rattle.mw_offset.specs.mw_pixel_words.Packed.{bit_of, stride_of, samples_of}
use Rattle.mw_bits.proofs.Pairings.{mapped_samples, flipped_place}
use Rattle.mw_bits.proofs.pairs.invert.Goals as goal

pub trimmed-requires-clause-words : goal.trimmed-requires-clause-words
trimmed-requires-clause-words c = λ y lt.
    let place = c.place-place.result in
    let out = c.flip_words.new.words in
    let whole : length out ≡ c.in_ok-flipped.flipped.len = omega arith in
    let old-is : c.as_mut_slice.result.now ≡ c.words_of-held.result.now = c.as_mut_slice.ensures.value ∙ c.in_ok-flipped.ensures.items in
    let packed : length c.words_of-held.result.now ≡ place.height * stride_of place.width = c.words_of-held.ensures.packed.size ∙ ap (λ (t : Rect). t.height * stride_of t.width) (sym c.place-place.ensures.value) in
    let size = ap length (c.as_slice.ensures.value ∙ take-written c.in_ok-flipped.flipped.items out c.in_ok-flipped.flipped.len whole) in
    let step = ap (λ (t : ℕ). y * t) c.stride.ensures.value in
    omega (arith, size, ap length old-is, packed, c.flip_words.auto.words, step, rows_fit y place.height (stride_of place.width) lt)

pub returns-clause-cells : goal.returns-clause-cells
returns-clause-cells c =
    let set = c.args.set.now in
    let place = c.place-place.result in
    let s = c.stride.result in
    let old = c.words_of-held.result.now in
    let out = c.flip_words.new.words in
    let words = c.in_ok-words.words.items in
    let whole : length out ≡ c.in_ok-flipped.flipped.len = omega arith in
    let old-is : c.as_mut_slice.result.now ≡ old = c.as_mut_slice.ensures.value ∙ c.in_ok-flipped.ensures.items in
    let packed : length old ≡ place.height * stride_of place.width = c.words_of-held.ensures.packed.size ∙ ap (λ (t : Rect). t.height * stride_of t.width) (sym c.place-place.ensures.value) in
    let bits : (x y : ℕ) → x < place.width → y < place.height → bit_of words (y * (64 * stride_of place.width) + x) ≡ 1 - bit_of old (y * (64 * stride_of place.width) + x) = λ x y less row_less.
    let at = y * (64 * stride_of place.width) + x in
    c.in_ok-words.ensures.bits x y less row_less
    ∙ ap (λ (t : List ℕ). bit_of t (y * (64 * s) + x)) (c.as_slice.ensures.value ∙ take-written c.in_ok-flipped.flipped.items out c.in_ok-flipped.flipped.len whole)
    ∙ ap (λ (t : ℕ). bit_of out (y * (64 * t) + x)) c.stride.ensures.value
    ∙ c.flip_words.ensures at (flipped_place place.width place.height x y (length c.as_mut_slice.result.now) (ap length old-is ∙ packed) less row_less)
    ∙ ap (λ (t : List ℕ). 1 - bit_of t at) old-is in
    ap (λ (r : Raster ℕ). r.cells) c.plane_of.ensures
    ∙ mapped_samples (λ n. 1 - n) place.width place.height old words bits
    ∙ ap (λ (t : Rect). map (λ n. 1 - n) (samples_of t.width t.height old)) c.place-place.ensures.value
    ∙ ap (map (λ n. 1 - n)) (sym c.words_of-held.ensures.samples)
