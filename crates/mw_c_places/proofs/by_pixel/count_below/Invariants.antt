use Rattle.std.proofs.Common.{◌≡◌, ◌+◌, ◌≤◌, length}
use Rattle.mw_model.proofs.Ranks.{count_under}
use Rattle.mw_c_places.proofs.UnderOffsets.{under_from}
use Rattle.mw_c_places.proofs.by_pixel.count_below.Given as goal

abbrev pub invariant-each : goal.invariant-each
invariant-each g l = record { counted : l.count ≡ count_under l.limit (under_from (g.S.Levels.image l.f) l.offsets l.left l.x l.y); small : l.count + l.left ≤ length l.offsets }

abbrev pub decreases-each : goal.decreases-each
decreases-each g l = l.left
