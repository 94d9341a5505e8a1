use Rattle.mw_geodesic_levels.specs.Levels.{level_numbered, IsFlooded}
use Rattle.mw_geodesic_levels.proofs.flood.offer_batch.Given as goal

abbrev pub invariant-loop-k : goal.invariant-loop-k
invariant-loop-k g l = IsFlooded l.frame (level_numbered g.P.Pixel.level l.mask) (level_numbered g.P.Pixel.level l.initial.samples) l.initial.queue (level_numbered g.P.Pixel.level l.samples) l.queue
