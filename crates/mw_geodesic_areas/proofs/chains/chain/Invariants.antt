use Rattle.std.proofs.Common.{slice_index}
use Rattle.mw_geodesic_areas.specs.Seen.{level_seen}
use Rattle.mw_geodesic_areas.specs.Chains.{AreChained}
use Rattle.mw_geodesic_areas.proofs.chains.chain.Given as goal

abbrev pub invariant-loop-i : goal.invariant-loop-i
invariant-loop-i g l = AreChained (level_seen g.P.Pixel.level l.task.turned l.task.maxval l.task.samples.now) g.P.Pixel.top_level l.i (slice_index l.heads) (slice_index l.links)
