use Rattle.std.proofs.Common.{take}
use Rattle.mw_model.specs.Windows.{seen_at}
use Rattle.mw_rank.specs.Ends.{AreEnds}
use Rattle.mw_rank.proofs.ends.row_ends.Given as goal

abbrev pub invariant-loop-run : goal.invariant-loop-run
invariant-loop-run g l = AreEnds g.P.Pixel.level g.P.Pixel.TOP (seen_at l.window) l.window.cells (take l.run-index l.runs) l.x l.y l.count l.ends.items
