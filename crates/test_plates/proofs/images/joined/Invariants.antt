use Rattle.std.proofs.Common.{◌≡◌}
use Rattle.test_plates.proofs.images.joined.Given as goal

abbrev pub invariant-loop-y : goal.invariant-loop-y
invariant-loop-y g l = record {
  width : l.out.width ≡ l.tiles.tiling.width;
  height : l.out.height ≡ l.tiles.tiling.height;
  row_width : l.row.width ≡ l.tiles.tiling.width;
  row_height : l.row.height ≡ 1;
}
