use Rattle.std.proofs.Common.{◌≡◌, ◌*◌, length}
use Rattle.mw_geodesic_levels.specs.Levels.{level_numbered}
use Rattle.mw_geodesic_grey.proofs.Edges.{RowsCleared}
use Rattle.mw_geodesic_grey.proofs.border.clear_inside.Given as goal

abbrev pub invariant-loop-y : goal.invariant-loop-y
invariant-loop-y g l = record {
  size : length l.samples ≡ l.height * l.width;
  rows : RowsCleared l.width l.height l.y (level_numbered g.P.Pixel.level l.initial.samples) (level_numbered g.P.Pixel.level l.samples);
}
