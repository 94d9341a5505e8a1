use Rattle.std.proofs.Common.{◌-◌, length, refl, arith}
use Rattle.mw_geodesic_distances.specs.Rows.{distance_at}
use Rattle.mw_geodesic_distances.proofs.Lists.{running_back_one, running_back_more}
use Rattle.mw_geodesic_distances.proofs.rows.run_left.Goals as goal

pub loop-done-init : goal.loop-done-init
loop-done-init c = running_back_one (length c.args.row.now) _ (distance_at c.args.row.now) (omega arith) refl

pub loop-done-preserved : goal.loop-done-preserved
loop-done-preserved c =
    let n = length c.args.row.now in
    running_back_more n c.loop-done.done (n - 1 - c.loop-done.done) c.loop-done.last c.lesser-last.result (distance_at c.args.row.now) c.loop-done.row (omega arith) (omega arith) c.lesser-last.ensures c.loop-done.invariant

pub returns : goal.returns
returns c = record { last = c.loop-done.invariant.end; along = λ x u next lt. c.loop-done.invariant.along x u next lt (omega arith) }
