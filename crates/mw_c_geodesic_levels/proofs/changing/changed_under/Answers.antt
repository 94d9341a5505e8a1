use Rattle.mw_geodesic.specs.Neighbours.{neighbours_of}
use Rattle.mw_c_arrays.specs.Sources.{picture_in}
use Rattle.mw_c_geodesic_levels.specs.Changes.{levels_changed}
use Rattle.mw_c_geodesic_levels.proofs.Changed.{array_alike}
use Rattle.mw_c_geodesic_levels.proofs.Planes.{ok_same}
use Rattle.mw_c_geodesic_levels.proofs.changing.changed_under.Goals as goal

pub returns-in-Some : goal.returns-in-Some
returns-in-Some c =
    let f = picture_in c.args.f in
    let near = neighbours_of c.in-Some.neighbours in
    ok_same c.changed_kernel.result (levels_changed c.args.change near f) (levels_changed c.args.change c.args.around.now f)
    (array_alike c.args.change c.args.around.now near c.args.f c.requires.image c.in-Some.ensures) c.changed_kernel.ensures
