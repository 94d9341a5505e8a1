use Rattle.std.proofs.Common.{◌+◌, ◌<◌, min, length, refl, arith}
use Rattle.mw_geodesic_distances.specs.Rows.{distance_at}
use Rattle.mw_geodesic_distances.proofs.Lists.{made_none, made_more}
use Rattle.mw_geodesic_distances.proofs.rows.lower.Goals as goal

pub loop-x-init : goal.loop-x-init
loop-x-init c = made_none 0 (λ k. min (distance_at c.args.row.now k) (distance_at c.args.other.now k + 1)) (distance_at c.args.row.now)

pub loop-x-preserved : goal.loop-x-preserved
loop-x-preserved c =
    let x = c.loop-x.x in
    let row = c.loop-x.row in
    let known = c.loop-x.invariant in
    let lt : x < length row = omega arith in
    let stood = known.rest x (omega arith) in
    made_more 0 x (x + 1) c.lesser.result (λ k. min (distance_at c.args.row.now k) (distance_at c.args.other.now k + 1)) (distance_at c.args.row.now) row refl (omega arith) lt (omega (arith, c.lesser.ensures)) known

pub returns : goal.returns
returns c = λ x lt. c.loop-x.invariant.done x (omega arith) (omega arith)
