use Rattle.std.proofs.Common.{◌≡◌, ◌*◌, ◌∙◌, length, ap, sym, arith}
use Rattle.mw_model.proofs.mw_facts.Elements.{take-written}
use Rattle.mw_model.specs.Rasters.{Raster}
use Rattle.mw_geodesic_levels.specs.declared.frame.Frame.{Frame}
use Rattle.mw_geodesic.specs.Neighbours.{neighbours_of}
use Rattle.mw_geodesic_levels.proofs.Rebuilt.{rebuilt_planes, same_size}
use Rattle.mw_geodesic_levels.proofs.rebuilding.reconstruct.Goals as goal

pub rebuild-requires-clause-size : goal.rebuild-requires-clause-size
rebuild-requires-clause-size g c =
    let items = c.into_samples-samples.result in
    same_size c.args.marker.height c.args.marker.width c.height.result c.width.result _ (omega (arith, ap length c.as_mut_slice.ensures.value, c.into_samples-samples.ensures.size, items.ok.0))
    (c.requires.height ∙ sym c.height.ensures.value) (c.requires.width ∙ sym c.width.ensures.value)

pub rebuild-requires-clause-mask : goal.rebuild-requires-clause-mask
rebuild-requires-clause-mask g c =
    same_size c.args.mask.now.height c.args.mask.now.width c.height.result c.width.result _ (ap length c.samples.ensures.value ∙ c.samples.ensures.size) (sym c.height.ensures.value) (sym c.width.ensures.value)

pub returns : goal.returns
returns g c = λ maxval.
    let frame : Frame = record { width = c.width.result; height = c.height.result; corners = c.corners.result } in
    let items = c.into_samples-samples.result in
    let made = c.rebuild.new.samples in
    let size : length c.as_mut_slice.result.now ≡ c.height.result * c.width.result =
    same_size c.args.marker.height c.args.marker.width c.height.result c.width.result _ (omega (arith, ap length c.as_mut_slice.ensures.value, c.into_samples-samples.ensures.size, items.ok.0))
    (c.requires.height ∙ sym c.height.ensures.value) (c.requires.width ∙ sym c.width.ensures.value) in
    rebuilt_planes g.P.Pixel.level maxval frame c.args.marker c.args.mask.now c.new.result (neighbours_of c.args.neighbours) c.samples.result.now c.as_mut_slice.result.now made c.corners.ensures
    (c.requires.width ∙ sym c.width.ensures.value) (c.requires.height ∙ sym c.height.ensures.value) (sym c.width.ensures.value) (sym c.height.ensures.value)
    (ap (λ (t : Raster _). t.width) c.new.ensures) (ap (λ (t : Raster _). t.height) c.new.ensures) c.samples.ensures.value (c.as_mut_slice.ensures.value ∙ c.into_samples-samples.ensures.value)
    (ap (λ (t : Raster _). t.cells) c.new.ensures ∙ take-written items.items made items.len (omega (arith, size, items.ok.0, ap length c.as_mut_slice.ensures.value, c.as_mut_slice.ensures.len)))
    (omega (arith, size)) c.in_ok-rebuild.ensures
