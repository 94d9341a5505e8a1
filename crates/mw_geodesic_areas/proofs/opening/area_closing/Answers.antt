use Rattle.std.proofs.Common.{◌≡◌, ◌*◌, ◌∙◌, length, ap, sym, arith}
use Rattle.mw_model.proofs.mw_facts.Elements.{take-written}
use Rattle.mw_model.specs.Rasters.{Raster}
use Rattle.mw_geodesic.specs.Neighbours.{neighbours_of}
use Rattle.mw_geodesic_areas.proofs.Planes.{same_size, complement_samples, turned_picture, opened_width, opened_height, closed_planes}
use Rattle.mw_geodesic_areas.proofs.opening.area_closing.Goals as goal

pub new-requires : goal.new-requires
new-requires g c =
    let level = g.P.Pixel.level in
    let e = neighbours_of c.args.neighbours in
    let image = c.args.image.now in
    let turned = c.new-image.result in
    let opened = c.in_ok-area_opening.field-0 in
    let xs = c.as_mut_slice.result.now in
    let ys = c.complement.new.samples in
    let items = c.in_ok-turned.turned in
    let same : length ys ≡ length xs = omega (arith, c.complement.auto.samples) in
    let is : xs ≡ image.cells = c.as_mut_slice.ensures.value ∙ c.in_ok-turned.ensures.items ∙ c.samples.ensures.value in
    let is_turned : turned.cells ≡ ys = ap (λ (t : Raster _). t.cells) c.new-image.ensures ∙ take-written items.items ys items.len (omega (arith, same, c.as_mut_slice.ensures.len)) in
    let wide : turned.width ≡ image.width = ap (λ (t : Raster _). t.width) c.new-image.ensures ∙ c.width-width.ensures.value in
    let high : turned.height ≡ image.height = ap (λ (t : Raster _). t.height) c.new-image.ensures ∙ c.height-height.ensures.value in
    let first = complement_samples level c.args.maxval image turned xs ys wide high c.samples.ensures.size is is_turned same c.complement.ensures in
    let second = c.in_ok-area_opening.ensures c.args.maxval (turned_picture level c.args.maxval image turned first) in
    let opened_wide = opened_width level c.args.maxval c.args.least e turned opened second in
    let opened_high = opened_height level c.args.maxval c.args.least e turned opened second in
    same_size opened.height opened.width c.height-height.result c.width-width.result _ c.into_samples-closed.ensures.size (opened_high ∙ ap (λ (t : Raster _). t.height) c.new-image.ensures) (opened_wide ∙ ap (λ (t : Raster _). t.width) c.new-image.ensures)

pub returns : goal.returns
returns g c =
    let level = g.P.Pixel.level in
    let e = neighbours_of c.args.neighbours in
    let image = c.args.image.now in
    let turned = c.new-image.result in
    let opened = c.in_ok-area_opening.field-0 in
    let xs = c.as_mut_slice.result.now in
    let ys = c.complement.new.samples in
    let items = c.in_ok-turned.turned in
    let same : length ys ≡ length xs = omega (arith, c.complement.auto.samples) in
    let is : xs ≡ image.cells = c.as_mut_slice.ensures.value ∙ c.in_ok-turned.ensures.items ∙ c.samples.ensures.value in
    let is_turned : turned.cells ≡ ys = ap (λ (t : Raster _). t.cells) c.new-image.ensures ∙ take-written items.items ys items.len (omega (arith, same, c.as_mut_slice.ensures.len)) in
    let wide : turned.width ≡ image.width = ap (λ (t : Raster _). t.width) c.new-image.ensures ∙ c.width-width.ensures.value in
    let high : turned.height ≡ image.height = ap (λ (t : Raster _). t.height) c.new-image.ensures ∙ c.height-height.ensures.value in
    let first = complement_samples level c.args.maxval image turned xs ys wide high c.samples.ensures.size is is_turned same c.complement.ensures in
    let second = c.in_ok-area_opening.ensures c.args.maxval (turned_picture level c.args.maxval image turned first) in
    let opened_wide = opened_width level c.args.maxval c.args.least e turned opened second in
    let opened_high = opened_height level c.args.maxval c.args.least e turned opened second in
    let r = c.new.result in
    let us = c.as_mut_slice-2.result.now in
    let vs = c.complement-2.new.samples in
    let items' = c.into_samples-closed.result in
    let same' : length vs ≡ length us = omega (arith, c.complement-2.auto.samples) in
    let is' : us ≡ opened.cells = c.as_mut_slice-2.ensures.value ∙ c.into_samples-closed.ensures.value in
    let is_closed : r.cells ≡ vs = ap (λ (t : Raster _). t.cells) c.new.ensures ∙ take-written items'.items vs items'.len (omega (arith, same', c.as_mut_slice-2.ensures.len)) in
    let size : length opened.cells ≡ opened.height * opened.width = omega (arith, ap length c.into_samples-closed.ensures.value, c.into_samples-closed.ensures.size, items'.ok.0) in
    let third = complement_samples level c.args.maxval opened r us vs
    (ap (λ (t : Raster _). t.width) c.new.ensures ∙ sym (opened_wide ∙ ap (λ (t : Raster _). t.width) c.new-image.ensures))
    (ap (λ (t : Raster _). t.height) c.new.ensures ∙ sym (opened_high ∙ ap (λ (t : Raster _). t.height) c.new-image.ensures)) size is' is_closed same' c.complement-2.ensures in
    closed_planes level c.args.maxval c.args.least e image turned opened r first second third
