use Rattle.std.proofs.Common.{◌≡◌, ◌∙◌, ap, subst}
use Rattle.std.specs.Prelude.{IfOk}
use Rattle.mw_model.specs.Rasters.{Raster}
use Rattle.mw_geodesic.specs.Geodesics.{reconstruction}
use Rattle.mw_geodesic.specs.Neighbours.{neighbours_of}
use Rattle.mw_geodesic_levels.specs.Pictures.{picture_by}
use Rattle.mw_geodesic_levels.proofs.Rebuilt.{same_plane}
use Rattle.mw_geodesic_levels.proofs.rebuilding.reconstruction.Goals as goal

pub reconstruct-requires-clause-width : goal.reconstruct-requires-clause-width
reconstruct-requires-clause-width g c = ap (λ (t : Raster _). t.width) c.new.ensures ∙ c.width-width.ensures.value ∙ c.requires.width

pub reconstruct-requires-clause-height : goal.reconstruct-requires-clause-height
reconstruct-requires-clause-height g c = ap (λ (t : Raster _). t.height) c.new.ensures ∙ c.height-height.ensures.value ∙ c.requires.height

pub returns : goal.returns
returns g c = λ maxval.
    let picture = picture_by g.P.Pixel.level maxval in
    let same = same_plane c.args.marker.now c.new.result c.width-width.result c.height-height.result c.in_ok-samples.samples.items c.samples.result.now c.new.ensures c.width-width.ensures.value c.height-height.ensures.value
    c.in_ok-samples.ensures.items c.samples.ensures.value in
    subst (λ (t : Raster _). IfOk c.reconstruct.result (λ r. picture r ≡ reconstruction (neighbours_of c.args.neighbours) (picture c.args.mask.now) (picture t))) same (c.reconstruct.ensures maxval)
