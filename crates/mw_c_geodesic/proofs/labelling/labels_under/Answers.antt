use Rattle.std.proofs.lemmas.Result.{IfOk-weaker}
use Rattle.mw_geodesic.specs.Labels.{IsLabelling}
use Rattle.mw_geodesic.specs.Neighbours.{neighbours_of}
use Rattle.mw_c_arrays.specs.Arrays.{set_picture}
use Rattle.mw_c_geodesic.proofs.CoveredAlike.{labelling_alike}
use Rattle.mw_c_geodesic.proofs.labelling.labels_under.Goals as goal

pub returns-in-Some-clause-made : goal.returns-in-Some-clause-made
returns-in-Some-clause-made c =
    let e = c.args.around.now in
    let near = neighbours_of c.in-Some.neighbours in
    let f = set_picture c.args.f in
    let new = c.labels_near.new.out in
    IfOk-weaker c.labels_near.result (λ n. IsLabelling near f n new) (λ n. IsLabelling e f n new) (λ n are. labelling_alike e near f n new c.in-Some.ensures are) c.labels_near.ensures.made
