use Rattle.std.proofs.Common.{◌≡◌, ◌-◌, ◌≤◌, length}
use Rattle.mw_line_lent.specs.Boxes.{HasBoxes, IsBlank}
use Rattle.mw_line_lent.proofs.tiles.put_all.Given as goal

abbrev pub invariant-by_rows : goal.invariant-by_rows
invariant-by_rows g l = record {
  within : l.done ≤ l.boxes.height;
  blank : IsBlank l.neutral l.boxes l.lines;
  spare : length l.spare ≡ length l.initial.spare;
  size : length l.out ≡ length l.initial.out;
  made : HasBoxes g.E.Extremum.merge l.neutral l.lent l.boxes l.done l.out;
}

abbrev pub decreases-by_rows : goal.decreases-by_rows
decreases-by_rows g l = l.boxes.height - l.done
