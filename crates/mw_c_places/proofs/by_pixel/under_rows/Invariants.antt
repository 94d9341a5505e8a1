use Rattle.std.proofs.Common.{◌≡◌, ◌≤◌}
use Rattle.mw_model.specs.Rectangles.{span}
use Rattle.mw_c_places.specs.Boxes.{extreme}
use Rattle.mw_c_places.proofs.InBoxes.{under_rows_from}
use Rattle.mw_c_places.proofs.by_pixel.under_rows.Given as goal

abbrev pub invariant-rows : goal.invariant-rows
invariant-rows g l = record { so_far : l.best ≡ extreme l.work.extremum l.start (under_rows_from (g.S.Levels.image l.f) l.work.offsets l.left l.x l.y); within : l.left ≤ span l.work.offsets.y0 l.work.offsets.y1 }

abbrev pub decreases-rows : goal.decreases-rows
decreases-rows g l = l.left
