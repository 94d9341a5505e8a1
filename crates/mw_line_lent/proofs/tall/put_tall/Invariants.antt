use Rattle.std.proofs.Common.{◌≡◌, ◌-◌, ◌<◌, ◌≤◌, length}
use Rattle.mw_line_lent.specs.Boxes.{HasBoxes, IsBlank}
use Rattle.mw_line_lent.specs.Sheets.{HasParts, IsSheet}
use Rattle.mw_line_lent.proofs.tall.put_tall.Given as goal

abbrev pub invariant-by_lines : goal.invariant-by_lines
invariant-by_lines g l = record {
  within : l.y ≤ l.tall.boxes.height;
  few : l.next ≤ l.tall.boxes.down;
  sheet : IsSheet l.neutral l.tall.boxes l.sheet;
  parts : l.next < l.tall.boxes.down → HasParts g.E.Extremum.merge l.neutral l.lent l.tall.boxes l.y l.next l.sheet;
  blank : IsBlank l.neutral l.tall.boxes l.lines;
  spare : length l.spare ≡ length l.initial.spare;
  size : length l.out ≡ length l.initial.out;
  made : HasBoxes g.E.Extremum.merge l.neutral l.lent l.tall.boxes l.y l.out;
}

abbrev pub decreases-by_lines : goal.decreases-by_lines
decreases-by_lines g l = l.tall.boxes.height - l.y
