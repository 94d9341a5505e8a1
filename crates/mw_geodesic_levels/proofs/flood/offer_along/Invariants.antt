use Rattle.mw_geodesic_levels.specs.Levels.{level_numbered, IsFlooded}
use Rattle.mw_geodesic_levels.proofs.flood.offer_along.Given as goal

abbrev pub invariant-loop-x : goal.invariant-loop-x
invariant-loop-x g l = IsFlooded l.frame (level_numbered g.P.Pixel.level l.mask) (level_numbered g.P.Pixel.level l.initial.samples) l.initial.queue (level_numbered g.P.Pixel.level l.samples) l.queue
