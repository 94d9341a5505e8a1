use Rattle.std.proofs.Common.{◌+◌, refl, arith}
use Rattle.mw_geodesic_distances.specs.Rows.{distance_at}
use Rattle.mw_geodesic_distances.proofs.Lists.{made_none, made_more}
use Rattle.mw_geodesic_distances.proofs.sweeps.fill.Goals as goal

pub loop-x-init : goal.loop-x-init
loop-x-init c = made_none 0 (λ k. c.args.number) (distance_at c.args.row.now)

pub loop-x-preserved : goal.loop-x-preserved
loop-x-preserved c = made_more 0 c.loop-x.x (c.loop-x.x + 1) c.args.number (λ k. c.args.number) (distance_at c.args.row.now) c.loop-x.row refl (omega arith) (omega arith) refl c.loop-x.invariant

pub returns : goal.returns
returns c = λ x lt. c.loop-x.invariant.done x (omega arith) (omega arith)
