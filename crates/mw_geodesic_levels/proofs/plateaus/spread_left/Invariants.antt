use Rattle.mw_geodesic_levels.specs.Levels.{level_numbered, IsRaised}
use Rattle.mw_geodesic_levels.proofs.plateaus.spread_left.Given as goal

abbrev pub invariant-loop-done : goal.invariant-loop-done
invariant-loop-done g l = IsRaised l.frame (level_numbered g.P.Pixel.level l.mask) (level_numbered g.P.Pixel.level l.initial.samples) (level_numbered g.P.Pixel.level l.samples)
