use Rattle.std.proofs.Common.{slice_get}
use Rattle.mw_tile_pieces.specs.Blocks.{IsPasted}
use Rattle.mw_tile_pieces.proofs.Pasted.{leftmost}
use Rattle.mw_tile_pieces.proofs.levels.copy_columns.Given as goal

abbrev pub invariant-loop-x : goal.invariant-loop-x
invariant-loop-x g l = IsPasted (leftmost l.block l.x) (slice_get l.initial.out) (slice_get l.out) (slice_get l.from)
