use Rattle.std.proofs.Common.{◌≡◌, subst, sym}
use Rattle.std.specs.Prelude.{IfOk}
use Rattle.mw_model.specs.Pictures.{Picture}
use Rattle.mw_geodesic.specs.Neighbours.{neighbours_of}
use Rattle.mw_c_arrays.specs.Arrays.{set_picture}
use Rattle.mw_c_geodesic.proofs.Shapes.{changed_alike}
use Rattle.mw_c_geodesic.proofs.changing.changed_under.Goals as goal

pub returns-in-Some : goal.returns-in-Some
returns-in-Some c =
    subst (λ (t : Picture). IfOk c.changed_near.result (λ g. g ≡ t)) (sym (changed_alike c.args.change c.args.around.now (neighbours_of c.in-Some.neighbours) (set_picture c.args.f) c.in-Some.ensures c.requires.picture)) c.changed_near.ensures
