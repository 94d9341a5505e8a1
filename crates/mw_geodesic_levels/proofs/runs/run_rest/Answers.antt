use Rattle.std.proofs.Common.{◌-◌, arith, inr, refl}
use Rattle.mw_geodesic_levels.specs.Levels.{level_numbered}
use Rattle.mw_geodesic_levels.proofs.Raises.{raised_itself, raised_on, near_across}
use Rattle.mw_geodesic_levels.proofs.Blocks.{column_near}
use Rattle.mw_geodesic_levels.proofs.runs.run_rest.Goals as goal

pub loop-p-init : goal.loop-p-init
loop-p-init g c = raised_itself c.args.frame (level_numbered g.P.Pixel.level c.args.mask.now) (level_numbered g.P.Pixel.level c.args.samples.now)

pub pull-requires-clause-near : goal.pull-requires-clause-near
pull-requires-clause-near g c =
    let near = column_near c.args.forward c.args.frame.width (c.loop-p.p - 1) c.loop-p.p (omega arith) (omega arith) in
    near_across (omega (arith, near.0, c.column_of-x.ensures.value, c.column_of-u.ensures.value)) (omega (arith, near.1, c.column_of-x.ensures.value, c.column_of-u.ensures.value)) (omega arith) (omega arith) (inr refl)

pub loop-p-preserved : goal.loop-p-preserved
loop-p-preserved g c = raised_on c.loop-p.invariant c.pull.ensures
