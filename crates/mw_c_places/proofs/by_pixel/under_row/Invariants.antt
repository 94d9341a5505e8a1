use Rattle.std.proofs.Common.{◌≡◌, ◌≤◌}
use Rattle.mw_model.specs.Rectangles.{span}
use Rattle.mw_c_places.specs.Boxes.{extreme, row_offsets}
use Rattle.mw_c_places.proofs.UnderOffsets.{under_from}
use Rattle.mw_c_places.proofs.by_pixel.under_row.Given as goal

abbrev pub invariant-each : goal.invariant-each
invariant-each g l = record { so_far : l.best ≡ extreme l.work.extremum l.start (under_from (g.S.Levels.image l.f) (row_offsets l.work.offsets l.j) l.left l.x l.y); within : l.left ≤ span l.work.offsets.x0 l.work.offsets.x1 }

abbrev pub decreases-each : goal.decreases-each
decreases-each g l = l.left
