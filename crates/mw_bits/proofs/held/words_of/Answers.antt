use Rattle.std.proofs.Common.{◌≡◌, ℕ, ◌*◌, length, ap, sym, subst, ◌∙◌}
use Rattle.mw_model.specs.Rasters.{Raster}
use Rattle.mw_offset.specs.mw_pixel_words.Packed.{samples_of, IsPacked}
use Rattle.mw_bits.proofs.held.words_of.Goals as goal

pub returns-clause-packed : goal.returns-clause-packed
returns-clause-packed c =
    let held = c.words-words.result.now in
    let place = c.args.set.now.place in
    let out = c.words.result.now in
    let wide : held.width ≡ place.width = ap (λ (r : Raster ℕ). r.width) c.words-words.ensures.value ∙ c.plane.ensures.width in
    let high : held.height ≡ place.height = ap (λ (r : Raster ℕ). r.height) c.words-words.ensures.value ∙ c.plane.ensures.height in
    subst (λ (w : ℕ). IsPacked w place.height out) wide (subst (λ (h : ℕ). IsPacked held.width h out) high c.words.ensures.packed)

pub returns-clause-samples : goal.returns-clause-samples
returns-clause-samples c =
    let held = c.words-words.result.now in
    let place = c.args.set.now.place in
    let out = c.words.result.now in
    let wide : held.width ≡ place.width = ap (λ (r : Raster ℕ). r.width) c.words-words.ensures.value ∙ c.plane.ensures.width in
    let high : held.height ≡ place.height = ap (λ (r : Raster ℕ). r.height) c.words-words.ensures.value ∙ c.plane.ensures.height in
    sym (ap (λ (r : Raster ℕ). r.cells) c.words-words.ensures.value ∙ c.plane.ensures.cells)
    ∙ c.words.ensures.samples
    ∙ ap (λ (w : ℕ). samples_of w held.height out) wide
    ∙ ap (λ (h : ℕ). samples_of place.width h out) high

pub returns-clause-size : goal.returns-clause-size
returns-clause-size c =
    let held = c.words-words.result.now in
    let place = c.args.set.now.place in
    let wide : held.width ≡ place.width = ap (λ (r : Raster ℕ). r.width) c.words-words.ensures.value ∙ c.plane.ensures.width in
    let high : held.height ≡ place.height = ap (λ (r : Raster ℕ). r.height) c.words-words.ensures.value ∙ c.plane.ensures.height in
    sym (ap (λ (r : Raster ℕ). length r.cells) c.words-words.ensures.value ∙ ap length c.plane.ensures.cells)
    ∙ c.width-width.ensures.size
    ∙ ap (λ (h : ℕ). h * held.width) high
    ∙ ap (λ (w : ℕ). place.height * w) wide
