use Rattle.std.proofs.Common.{◌≡◌, ℕ, ◌+◌, ◌<◌, length, take, get_or, fold}
use Rattle.mw_model.specs.Rasters.{seen_under}
use Rattle.mw_model.specs.Windows.{seen_at}
use Rattle.mw_offset.proofs.offsets.combine_offsets.Given as goal

abbrev pub invariant-loop-offset : goal.invariant-loop-offset
invariant-loop-offset g l = (x : ℕ) (d : g.row.P.Denot) → x < length l.out → get_or l.out x d ≡ fold g.E.Extremum.merge (get_or l.initial.out x d) (seen_under (seen_at l.window) (take l.offset-index l.offsets) (l.column + x) l.row)
