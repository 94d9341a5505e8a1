use Rattle.std.proofs.lemmas.Result.{IfOk-weaker}
use Rattle.mw_geodesic.specs.Neighbours.{neighbours_of}
use Rattle.mw_geodesic_labels.specs.Regions.{AreRegionsWithLabels}
use Rattle.mw_c_arrays.specs.Arrays.{set_picture}
use Rattle.mw_c_geodesic.proofs.CoveredAlike.{told_with_labels_alike}
use Rattle.mw_c_geodesic.proofs.measuring.measured_under.Goals as goal

pub returns-in-Some-clause-made : goal.returns-in-Some-clause-made
returns-in-Some-clause-made c =
    let e = c.args.around.now in
    let near = neighbours_of c.in-Some.neighbours in
    let f = set_picture c.args.f in
    let old_rows = c.args.rows.now in
    let rows = c.measured_near.new.rows in
    let old = c.args.out.now in
    let new = c.measured_near.new.out in
    IfOk-weaker c.measured_near.result (λ n. AreRegionsWithLabels near f n old_rows rows old new) (λ n. AreRegionsWithLabels e f n old_rows rows old new)
    (λ n are. told_with_labels_alike e near f n old_rows rows old new c.in-Some.ensures are) c.measured_near.ensures.made
