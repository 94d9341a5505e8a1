use Rattle.mw_geodesic_levels.specs.Levels.{level_numbered, cost, IsRaised}
use Rattle.mw_geodesic_levels.proofs.flood.flood.Given as goal

abbrev pub invariant-loop-batch : goal.invariant-loop-batch
invariant-loop-batch g l = IsRaised l.frame (level_numbered g.P.Pixel.level l.mask) (level_numbered g.P.Pixel.level l.initial.samples) (level_numbered g.P.Pixel.level l.samples)

abbrev pub decreases-loop-batch : goal.decreases-loop-batch
decreases-loop-batch g l = cost l.frame (level_numbered g.P.Pixel.level l.mask) (level_numbered g.P.Pixel.level l.samples) l.queue
