use Rattle.mw_geodesic_levels.specs.Levels.{level_numbered, IsRaised}
use Rattle.mw_geodesic_levels.proofs.sweeps.pull_from_right.Given as goal

abbrev pub invariant-loop-u : goal.invariant-loop-u
invariant-loop-u g l = IsRaised l.frame (level_numbered g.P.Pixel.level l.mask) (level_numbered g.P.Pixel.level l.initial.samples) (level_numbered g.P.Pixel.level l.samples)
