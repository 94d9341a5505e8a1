use Rattle.std.proofs.Common.{◌≡◌, ◌≤◌, length}
use Rattle.mw_model.specs.Flat.{least}
use Rattle.mw_c_places.proofs.UnderOffsets.{under_from}
use Rattle.mw_c_places.proofs.by_pixel.least_under.Given as goal

abbrev pub invariant-each : goal.invariant-each
invariant-each g l = record { so_far : l.best ≡ least (g.S.Levels.image l.f).maxval (under_from (g.S.Levels.image l.f) l.offsets l.left l.x l.y); within : l.left ≤ length l.offsets }

abbrev pub decreases-each : goal.decreases-each
decreases-each g l = l.left
