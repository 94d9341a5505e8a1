use Rattle.std.proofs.Common.{◌+◌, ◌≤◌, slice_index}
use Rattle.mw_geodesic_levels.specs.Levels.{level_numbered}
use Rattle.mw_geodesic_areas.specs.Seen.{level_seen}
use Rattle.mw_geodesic_areas.specs.Problems.{problem}
use Rattle.mw_geodesic_areas.specs.Forests.{IsParentForest}
use Rattle.mw_geodesic_areas.specs.Classes.{Standing}
use Rattle.mw_geodesic_areas.proofs.taking.take_all.Given as goal

abbrev pub invariant-loop-level : goal.invariant-loop-level
invariant-loop-level g l = record {
  forest : IsParentForest l.parent;
  low : l.level ≤ g.P.Pixel.top_level;
  standing : Standing (problem l.task.frame (level_seen g.P.Pixel.level l.task.turned l.task.maxval l.task.samples.now) l.task.least) (l.level + 1) 0 l.parent (slice_index l.links) (level_numbered g.P.Pixel.level l.out);
}

abbrev pub decreases-loop-level : goal.decreases-loop-level
decreases-loop-level g l = l.level
