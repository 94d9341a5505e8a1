use Rattle.mw_geodesic_levels.specs.Levels.{level_numbered, IsRaised}
use Rattle.mw_geodesic_levels.proofs.sweeps.sweep_all.Given as goal

abbrev pub invariant-loop-pair : goal.invariant-loop-pair
invariant-loop-pair g l = IsRaised l.frame (level_numbered g.P.Pixel.level l.mask) (level_numbered g.P.Pixel.level l.initial.samples) (level_numbered g.P.Pixel.level l.samples)
