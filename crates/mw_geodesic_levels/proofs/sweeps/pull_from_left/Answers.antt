use Rattle.std.proofs.Common.{arith, inl}
use Rattle.mw_geodesic_levels.specs.Levels.{level_numbered}
use Rattle.mw_geodesic_levels.proofs.Raises.{raised_itself, raised_on}
use Rattle.mw_geodesic_levels.proofs.sweeps.pull_from_left.Goals as goal

pub loop-x-init : goal.loop-x-init
loop-x-init g c = raised_itself c.args.frame (level_numbered g.P.Pixel.level c.args.mask.now) (level_numbered g.P.Pixel.level c.args.samples.now)

pub pull-requires-clause-near : goal.pull-requires-clause-near
pull-requires-clause-near g c = record { left = omega arith; right = omega arith; above = c.requires.down; below = c.requires.up; across = inl c.requires.across }

pub loop-x-preserved : goal.loop-x-preserved
loop-x-preserved g c = raised_on c.loop-x.invariant c.pull.ensures
