use Rattle.std.proofs.Common.{refl, arith}
use Rattle.mw_geodesic_distances.specs.Rows.{distance_at}
use Rattle.mw_geodesic_distances.proofs.Lists.{running_one, running_more}
use Rattle.mw_geodesic_distances.proofs.rows.run_right.Goals as goal

pub loop-x-init : goal.loop-x-init
loop-x-init c = running_one _ (distance_at c.args.row.now) refl

pub loop-x-preserved : goal.loop-x-preserved
loop-x-preserved c = running_more c.loop-x.x c.loop-x.last c.lesser-last.result (distance_at c.args.row.now) c.loop-x.row (omega arith) c.lesser-last.ensures c.loop-x.invariant

pub returns : goal.returns
returns c = record { first = c.loop-x.invariant.first; along = λ u x next lt. c.loop-x.invariant.along u x next (omega arith) }
