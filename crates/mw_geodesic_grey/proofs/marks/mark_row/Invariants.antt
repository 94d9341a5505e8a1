use Rattle.std.proofs.Common.{◌≡◌, ◌<◌, ℕ, get_or}
use Rattle.mw_geodesic_grey.specs.Places.{over_mark}
use Rattle.mw_geodesic_levels.specs.Levels.{level_numbered}
use Rattle.mw_geodesic_grey.proofs.marks.mark_row.Given as goal

abbrev pub invariant-loop-x : goal.invariant-loop-x
invariant-loop-x g l = (k : ℕ) → k < l.x → get_or l.line k 0 ≡ over_mark (level_numbered g.P.Pixel.level l.upper k) (level_numbered g.P.Pixel.level l.lower k)
