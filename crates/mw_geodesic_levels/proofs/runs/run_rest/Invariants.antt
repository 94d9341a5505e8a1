use Rattle.mw_geodesic_levels.specs.Levels.{level_numbered, IsRaised}
use Rattle.mw_geodesic_levels.proofs.runs.run_rest.Given as goal

abbrev pub invariant-loop-p : goal.invariant-loop-p
invariant-loop-p g l = IsRaised l.frame (level_numbered g.P.Pixel.level l.mask) (level_numbered g.P.Pixel.level l.initial.samples) (level_numbered g.P.Pixel.level l.samples)
