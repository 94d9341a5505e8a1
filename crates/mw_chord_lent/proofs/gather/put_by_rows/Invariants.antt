use Rattle.std.proofs.Common.{◌≡◌, ℕ, ◌+◌, ◌*◌, ◌<◌, get_or}
use Rattle.mw_line_lent.specs.Boxes.{IsPutInRows}
use Rattle.mw_chord_lent.specs.Placed.{gathered_at}
use Rattle.mw_chord_lent.proofs.gather.put_by_rows.Given as goal

abbrev pub invariant-loop-r : goal.invariant-loop-r
invariant-loop-r g l = record {
  put : IsPutInRows l.rows.high l.rows.at l.rows.width l.rows.apart l.initial.out l.out;
  made : (r i : ℕ) → r < l.r → i < l.rows.width → get_or l.out (l.rows.at + r * l.rows.apart + i) l.neutral ≡ gathered_at g.E.Extremum.merge l.lists l.neutral (r * l.rows.wide + i) l.neutral l.places;
}
