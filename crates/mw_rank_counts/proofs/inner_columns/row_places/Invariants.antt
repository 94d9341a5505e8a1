use Rattle.std.proofs.Common.{take}
use Rattle.mw_model.specs.Windows.{seen_at}
use Rattle.mw_rank_counts.specs.Counting.{ArePlaces}
use Rattle.mw_rank_counts.proofs.inner_columns.row_places.Given as goal

abbrev pub invariant-loop-offset : goal.invariant-loop-offset
invariant-loop-offset g l = ArePlaces g.P.Pixel.level g.P.Pixel.TOP (seen_at l.window) l.window.cells (take l.offset-index l.offsets) l.x l.y l.count l.places.items
