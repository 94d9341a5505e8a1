use Rattle.std.proofs.Common.{slice_get}
use Rattle.mw_tile_pieces.specs.Blocks.{IsPasted}
use Rattle.mw_tile_pieces.proofs.Pasted.{upper}
use Rattle.mw_tile_pieces.proofs.levels.copy_rows.Given as goal

abbrev pub invariant-loop-y : goal.invariant-loop-y
invariant-loop-y g l = IsPasted (upper l.block l.y) (slice_get l.initial.out) (slice_get l.out) (slice_get l.from)
