use Rattle.std.proofs.Common.{◌≡◌, length, take}
use Rattle.mw_rank_counts.specs.mw_rank.Runs.{element_of}
use Rattle.mw_rank_rows.specs.Rectangles.{offsets_of_rows}
use Rattle.mw_rank_rows.proofs.rectangle.rectangle_of.Given as goal

abbrev pub invariant-loop-i : goal.invariant-loop-i
invariant-loop-i l = element_of (take l.i l.runs) ≡ offsets_of_rows (record { dx = l.first.dx; dy = l.first.dy; columns = l.first.count; rows = length l.runs }) l.i
