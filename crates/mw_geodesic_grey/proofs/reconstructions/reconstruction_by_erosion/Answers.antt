use Rattle.std.proofs.Common.{◌≡◌, ◌≤◌, ◌∙◌, ap, subst, sym}
use Rattle.std.specs.Prelude.{All, IfOk}
use Rattle.mw_model.specs.Rasters.{Raster}
use Rattle.mw_geodesic.specs.Geodesics.{reconstruction_by_erosion}
use Rattle.mw_geodesic.specs.Neighbours.{neighbours_of}
use Rattle.mw_geodesic_levels.specs.Pictures.{picture_by}
use Rattle.mw_geodesic_grey.proofs.reconstructions.reconstruction_by_erosion.Goals as goal

pub reconstruct_by_erosion-requires-clause-width : goal.reconstruct_by_erosion-requires-clause-width
reconstruct_by_erosion-requires-clause-width g c =
    ap (λ (t : Raster _). t.width) c.in_ok-marker.ensures.same ∙ c.requires.width ∙ sym (ap (λ (t : Raster _). t.width) c.in_ok-mask.ensures.same)

pub reconstruct_by_erosion-requires-clause-height : goal.reconstruct_by_erosion-requires-clause-height
reconstruct_by_erosion-requires-clause-height g c =
    ap (λ (t : Raster _). t.height) c.in_ok-marker.ensures.same ∙ c.requires.height ∙ sym (ap (λ (t : Raster _). t.height) c.in_ok-mask.ensures.same)

pub reconstruct_by_erosion-requires-clause-marker : goal.reconstruct_by_erosion-requires-clause-marker
reconstruct_by_erosion-requires-clause-marker g c =
    subst (λ (t : Raster _). All (λ s. g.P.Pixel.level s ≤ c.args.maxval) t.cells) (sym c.in_ok-marker.ensures.same) c.requires.marker

pub reconstruct_by_erosion-requires-clause-mask : goal.reconstruct_by_erosion-requires-clause-mask
reconstruct_by_erosion-requires-clause-mask g c =
    subst (λ (t : Raster _). All (λ s. g.P.Pixel.level s ≤ c.args.maxval) t.cells) (sym c.in_ok-mask.ensures.same) c.requires.mask

pub returns : goal.returns
returns g c =
    let picture = picture_by g.P.Pixel.level c.args.maxval in
    let e = neighbours_of c.args.neighbours in
    let made = c.reconstruct_by_erosion.result in
    subst (λ (t : Raster _). IfOk made (λ r. picture r ≡ reconstruction_by_erosion e (picture t) (picture c.args.marker.now))) c.in_ok-mask.ensures.same
    (subst (λ (t : Raster _). IfOk made (λ r. picture r ≡ reconstruction_by_erosion e (picture c.in_ok-mask.mask) (picture t))) c.in_ok-marker.ensures.same c.reconstruct_by_erosion.ensures)
