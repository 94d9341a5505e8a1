use Rattle.mw_geodesic_levels.specs.Levels.{level_numbered, cost, IsFlooded}
use Rattle.mw_geodesic_levels.proofs.flood.flood_plateaus.Given as goal

abbrev pub invariant-loop-stretch : goal.invariant-loop-stretch
invariant-loop-stretch g l = IsFlooded l.frame (level_numbered g.P.Pixel.level l.mask) (level_numbered g.P.Pixel.level l.initial.samples) l.initial.queue (level_numbered g.P.Pixel.level l.samples) l.queue

abbrev pub decreases-loop-stretch : goal.decreases-loop-stretch
decreases-loop-stretch g l = cost l.frame (level_numbered g.P.Pixel.level l.mask) (level_numbered g.P.Pixel.level l.samples) l.queue
