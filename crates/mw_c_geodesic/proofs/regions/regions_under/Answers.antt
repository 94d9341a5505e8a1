use Rattle.std.proofs.lemmas.Result.{IfOk-weaker}
use Rattle.mw_geodesic.specs.Neighbours.{neighbours_of}
use Rattle.mw_geodesic_labels.specs.Regions.{AreRegionsTold}
use Rattle.mw_c_arrays.specs.Arrays.{set_picture}
use Rattle.mw_c_geodesic.proofs.CoveredAlike.{told_alike}
use Rattle.mw_c_geodesic.proofs.regions.regions_under.Goals as goal

pub returns-in-Some-clause-made : goal.returns-in-Some-clause-made
returns-in-Some-clause-made c =
    let e = c.args.around.now in
    let near = neighbours_of c.in-Some.neighbours in
    let f = set_picture c.args.f in
    let old = c.args.out.now in
    let new = c.regions_near.new.out in
    IfOk-weaker c.regions_near.result (λ n. AreRegionsTold near f n old new) (λ n. AreRegionsTold e f n old new) (λ n told. told_alike e near f n old new c.in-Some.ensures told) c.regions_near.ensures.made
