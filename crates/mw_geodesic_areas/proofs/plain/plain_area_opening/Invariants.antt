use Rattle.std.proofs.Common.{◌-◌}
use Rattle.mw_geodesic_areas.specs.Plain.{AreOpenedOver}
use Rattle.mw_geodesic_areas.proofs.plain.plain_area_opening.Given as goal

abbrev pub invariant-loop-n : goal.invariant-loop-n
invariant-loop-n l = record { opened : AreOpenedOver l.around l.least l.image (l.image.maxval - l.n) l.levels.items }
