use Rattle.std.proofs.Common.{◌≡◌, subst, sym}
use Rattle.std.specs.Prelude.{IfOk}
use Rattle.mw_model.specs.Pictures.{Picture}
use Rattle.mw_geodesic.specs.Neighbours.{neighbours_of}
use Rattle.mw_c_arrays.specs.Sources.{picture_in}
use Rattle.mw_c_arrays.proofs.SourceImages.{source_image}
use Rattle.mw_c_geodesic.proofs.RebuiltImages.{method_alike}
use Rattle.mw_c_geodesic.proofs.rebuilding.rebuilt_under.Goals as goal

pub returns-in-Some : goal.returns-in-Some
returns-in-Some c =
    let mask = source_image c.args.mask c.requires.mask in
    let marker = source_image c.args.marker c.requires.marker in
    subst (λ (t : Picture). IfOk c.rebuilt_kernel.result (λ g. g ≡ t))
    (sym (method_alike c.args.method c.args.around.now (neighbours_of c.in-Some.neighbours) (picture_in c.args.mask) (picture_in c.args.marker) c.in-Some.ensures marker.picture mask.picture c.requires.shape)) c.rebuilt_kernel.ensures
