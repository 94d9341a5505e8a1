use Rattle.std.proofs.Common.{◌≡◌, ℕ, ◌+◌, ◌-◌, ◌*◌, ◌<◌, length, get_or}
use Rattle.mw_line_lent.specs.Bests.{IsBest}
use Rattle.mw_line_lent.specs.Boxes.{IsPutAt}
use Rattle.mw_line_lent.proofs.rows.put_rows.Given as goal

abbrev pub invariant-loop-r : goal.invariant-loop-r
invariant-loop-r g l = record {
  spare : length l.spare ≡ length l.initial.spare;
  put : IsPutAt l.at (l.r * l.boxes.width) l.initial.out l.out;
  made : (r i : ℕ) (d : g.row.P.Denot) → r < l.r → i < l.boxes.width
      → IsBest g.E.Extremum.merge (λ j. get_or l.lines (r * (l.boxes.width + (l.boxes.across - 1)) + j) d) i (i + l.boxes.across) (get_or l.out (l.at + (r * l.boxes.width + i)) d);
}
