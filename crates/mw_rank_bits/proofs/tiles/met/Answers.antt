use Rattle.std.proofs.Common.{◌≡◌, ◌*◌, ◌<◌, ◌++◌, ℕ, min, List, length, take, drop, ap, sym, subst, arith, ◌∙◌}
use Rattle.mw_model.proofs.mw_facts.Elements.{take-written}
use Rattle.mw_model.specs.Rasters.{Raster, raster}
use Rattle.mw_bits.specs.mw_pixel_words.Packed.{bit_of, IsPacked, samples_of, stride_of}
use Rattle.mw_rank_bits.proofs.Made.{both_packed, both_met}
use Rattle.mw_rank_bits.proofs.tiles.met.Goals as goal

pub merge_words-requires : goal.merge_words-requires
merge_words-requires c =
    let first : length c.as_mut_slice.result.now ≡ c.args.plane.now.height * stride_of c.args.plane.now.width = ap length c.as_mut_slice.ensures.value ∙ c.requires.size in
    let second : length c.words-2.result.now ≡ c.args.plane.now.height * stride_of c.args.plane.now.width = c.words-2.ensures.packed.size ∙ ap (λ (r : Raster ℕ). r.height * stride_of r.width) c.words.ensures.value in
    first ∙ sym second

pub new-requires : goal.new-requires
new-requires c =
    let words = c.args.words.items in
    let out = c.merge_words.new.words in
    let other = c.words-2.result.now in
    let value = c.as_mut_slice.ensures.value in
    let old = ap length value in
    let whole : length out ≡ c.args.words.len = omega (arith, c.as_mut_slice.ensures.len) in
    let same : length out ≡ length words = omega (arith, old) in
    let both : (q : ℕ) → q < 64 * length words → bit_of out q ≡ min (bit_of words q) (bit_of other q) = λ q lt. c.merge_words.ensures q (omega (arith, old)) ∙ ap (λ (t : List ℕ). min (bit_of t q) (bit_of other q)) value in
    let packed = both_packed c.args.plane.now.width c.args.plane.now.height words other out c.requires same both in
    rw (take-written words out c.args.words.len whole)
    (subst (λ (t : ℕ). IsPacked t c.height.result out) (sym c.width.ensures.value) (subst (λ (t : ℕ). IsPacked c.args.plane.now.width t out) (sym c.height.ensures.value) packed))

pub returns : goal.returns
returns c =
    let words = c.args.words.items in
    let out = c.merge_words.new.words in
    let other = c.words-2.result.now in
    let plane = c.args.plane.now in
    let value = c.as_mut_slice.ensures.value in
    let old = ap length value in
    let whole : length out ≡ c.args.words.len = omega (arith, c.as_mut_slice.ensures.len) in
    let held : List ℕ = take c.args.words.len (out ++ drop (length out) words) in
    let both : (q : ℕ) → q < 64 * length words → bit_of out q ≡ min (bit_of words q) (bit_of other q) = λ q lt. c.merge_words.ensures q (omega (arith, old)) ∙ ap (λ (t : List ℕ). min (bit_of t q) (bit_of other q)) value in
    both_met words other out plane c.of_words.result c.requires (subst (λ (r : Raster ℕ). r.cells ≡ samples_of r.width r.height other) c.words.ensures.value c.words-2.ensures.samples) both
    (c.of_words.ensures
    ∙ c.new.ensures
    ∙ ap (λ (t : ℕ). raster t c.height.result (samples_of t c.height.result held)) c.width.ensures.value
    ∙ ap (λ (t : ℕ). raster plane.width t (samples_of plane.width t held)) c.height.ensures.value
    ∙ ap (λ (t : List ℕ). raster plane.width plane.height (samples_of plane.width plane.height t)) (take-written words out c.args.words.len whole))
