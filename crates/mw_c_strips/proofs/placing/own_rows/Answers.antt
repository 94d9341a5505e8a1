use Rattle.std.proofs.Common.{◌≡◌, ℕ, ◌*◌, List, length, ap, sym, arith, ◌∙◌}
use Rattle.std.proofs.lemmas.List.{length-map}
use Rattle.mw_c_arrays.specs.Sources.{picture_in}
use Rattle.mw_c_arrays.proofs.SourceImages.{source_image}
use Rattle.mw_c_lent.proofs.Rows.{rows_of_cells, strip_within}
use Rattle.mw_c_strips.proofs.placing.own_rows.Goals as goal

pub slice_bounds-result-end : goal.slice_bounds-result-end
slice_bounds-result-end g c =
    let f = picture_in c.args.f in
    let samples = c.in-Some.samples.now in
    let size : length samples ≡ f.height * f.width = sym (length-map samples g.P.Pixel.level) ∙ ap (λ (xs : List ℕ). length xs) c.in-Some.ensures.samples ∙ (source_image c.args.f c.requires.sound).picture.size in
    omega (arith, strip_within c.args.strip f c.requires.strip, size)

pub returns-clause-rows : goal.returns-clause-rows
returns-clause-rows g c =
    rows_of_cells g.P.Pixel.level (picture_in c.args.f) c.args.strip c.in-Some.samples.now c.requires.strip (source_image c.args.f c.requires.sound).picture.size c.in-Some.ensures.samples
