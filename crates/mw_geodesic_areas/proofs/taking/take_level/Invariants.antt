use Rattle.std.proofs.Common.{◌≡◌, ℕ, ◌+◌, ◌*◌, ◌≤◌, slice_index}
use Rattle.mw_geodesic_levels.specs.Levels.{level_numbered}
use Rattle.mw_geodesic_areas.specs.Seen.{level_seen}
use Rattle.mw_geodesic_areas.specs.Problems.{problem}
use Rattle.mw_geodesic_areas.specs.Forests.{IsParentForest}
use Rattle.mw_geodesic_areas.specs.Classes.{Standing}
use Rattle.mw_geodesic_areas.proofs.taking.take_level.Given as goal

abbrev pub invariant-loop-next : goal.invariant-loop-next
invariant-loop-next g l = record {
  forest : IsParentForest l.parent;
  within : l.next ≤ l.task.frame.height * l.task.frame.width;
  there : (j : ℕ) → j + 1 ≡ l.next → level_seen g.P.Pixel.level l.task.turned l.task.maxval l.task.samples.now j ≡ l.level;
  standing : Standing (problem l.task.frame (level_seen g.P.Pixel.level l.task.turned l.task.maxval l.task.samples.now) l.task.least) l.level l.next l.parent (slice_index l.links) (level_numbered g.P.Pixel.level l.out);
}

abbrev pub decreases-loop-next : goal.decreases-loop-next
decreases-loop-next g l = l.next
