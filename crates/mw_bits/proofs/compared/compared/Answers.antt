use Rattle.std.proofs.Common.{◌≡◌, ℕ, List, length, ap, ◌∙◌, arith}
use Rattle.mw_model.proofs.mw_facts.Elements.{take-written}
use Rattle.mw_model.specs.declared.offsets.Rect.{Rect}
use Rattle.mw_model.specs.Rasters.{Raster}
use Rattle.mw_offset.specs.mw_pixel_words.Packed.{samples_of}
use Rattle.mw_bits.proofs.compared.compared.Goals as goal

pub plane_of-requires : goal.plane_of-requires
plane_of-requires g c =
    let out = c.compare_rows.new.out in
    let whole : length out ≡ c.in_ok-words.words.len = omega arith in
    let width-is = ap (λ (t : Rect). t.width) c.place-place.ensures.value in
    let height-is = ap (λ (t : Rect). t.height) c.place-place.ensures.value in
    rw (take-written c.in_ok-words.words.items out c.in_ok-words.words.len whole, width-is, height-is) c.compare_rows.ensures.packed

pub returns-clause-cells : goal.returns-clause-cells
returns-clause-cells g c =
    let out = c.compare_rows.new.out in
    let whole : length out ≡ c.in_ok-words.words.len = omega arith in
    ap (λ (r : Raster ℕ). r.cells) c.plane_of.ensures
    ∙ ap (λ (t : List ℕ). samples_of c.place-place.result.width c.place-place.result.height t) (take-written c.in_ok-words.words.items out c.in_ok-words.words.len whole)
    ∙ ap (λ (t : Rect). samples_of t.width t.height out) c.place-place.ensures.value
    ∙ c.compare_rows.ensures.samples
