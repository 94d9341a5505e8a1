use Rattle.std.proofs.Common.{◌≡◌, sym, subst, arith}
use Rattle.std.specs.Prelude.{IfOk}
use Rattle.mw_model.specs.Pictures.{Picture}
use Rattle.mw_c_geodesic.proofs.RebuiltImages.{by_dilation, by_erosion}
use Rattle.mw_c_geodesic.proofs.rebuilding.rebuilt_plainly.Goals as goal

pub returns-then-method-eq0 : goal.returns-then-method-eq0
returns-then-method-eq0 c =
    subst (λ (t : Picture). IfOk c.reconstruction.result (λ r. r ≡ t)) (sym (by_dilation c.args.method c.args.around.now c.args.mask.now c.args.marker.now (omega arith))) c.reconstruction.ensures

pub returns : goal.returns
returns c =
    subst (λ (t : Picture). IfOk c.reconstruction_by_erosion.result (λ r. r ≡ t)) (sym (by_erosion c.args.method c.args.around.now c.args.mask.now c.args.marker.now (λ e. omega arith))) c.reconstruction_by_erosion.ensures
