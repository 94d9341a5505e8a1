use Rattle.std.proofs.Common.{◌+◌, fold}
use Rattle.mw_model.specs.Rasters.{seen_under}
use Rattle.mw_model.specs.Windows.{seen_at}
use Rattle.mw_line.proofs.Rows.{RowsDone}
use Rattle.mw_offset.proofs.offsets.combine_tile.Given as goal

abbrev pub invariant-loop-y : goal.invariant-loop-y
invariant-loop-y g l = RowsDone (λ best x j. fold g.E.Extremum.merge best (seen_under (seen_at l.window) l.offsets (l.tile.x + x) (l.tile.y + j))) l.tile.width l.tile.height l.y l.fn.out l.out
