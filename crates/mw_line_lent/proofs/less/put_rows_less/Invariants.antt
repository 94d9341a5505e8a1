use Rattle.std.proofs.Common.{ℕ, ◌+◌, ◌-◌, ◌*◌, ◌<◌, get_or}
use Rattle.mw_line_lent.specs.Boxes.{IsPutAt}
use Rattle.mw_line_lent.specs.Differences.{IsBestLess}
use Rattle.mw_line_lent.proofs.less.put_rows_less.Given as goal

abbrev pub invariant-loop-r : goal.invariant-loop-r
invariant-loop-r g l = record {
  put : IsPutAt l.at (l.r * l.boxes.width) l.initial.out l.out;
  made : (r i : ℕ) (d e : g.row.P.Denot) → r < l.r → i < l.boxes.width
      → IsBestLess g.P.Pixel.level g.U.Extremum.merge (λ j. get_or l.lines.uppers.now (r * (l.boxes.width + (l.boxes.across - 1)) + j) d) g.L.Extremum.merge (λ j. get_or l.lines.lowers.now (r * (l.boxes.width + (l.boxes.across - 1)) + j) e) i (i + l.boxes.across) (get_or l.out (l.at + (r * l.boxes.width + i)) d);
}
