use Rattle.std.proofs.Common.{◌≡◌, sym, subst, arith}
use Rattle.std.specs.Prelude.{IfOk}
use Rattle.mw_model.specs.Pictures.{Picture}
use Rattle.mw_geodesic.specs.Neighbours.{neighbours_of}
use Rattle.mw_geodesic_levels.specs.Pictures.{picture_by}
use Rattle.mw_c_geodesic.proofs.RebuiltImages.{by_dilation, by_erosion}
use Rattle.mw_c_geodesic.proofs.rebuilding.rebuilt_planes.Goals as goal

pub returns-then-method-eq0 : goal.returns-then-method-eq0
returns-then-method-eq0 g c =
    let picture = picture_by g.P.Pixel.level c.args.maxval in
    subst (λ (t : Picture). IfOk c.reconstruct.result (λ r. picture r ≡ t)) (sym (by_dilation c.args.method (neighbours_of c.args.neighbours) (picture c.args.mask) (picture c.args.marker) (omega arith))) (c.reconstruct.ensures c.args.maxval)

pub returns : goal.returns
returns g c =
    let picture = picture_by g.P.Pixel.level c.args.maxval in
    subst (λ (t : Picture). IfOk c.reconstruct_by_erosion.result (λ r. picture r ≡ t)) (sym (by_erosion c.args.method (neighbours_of c.args.neighbours) (picture c.args.mask) (picture c.args.marker) (λ e. omega arith))) c.reconstruct_by_erosion.ensures
