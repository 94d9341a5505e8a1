use Rattle.std.proofs.Common.{◌≡◌, ◌-◌, ◌≤◌, length}
use Rattle.mw_line_lent.specs.Boxes.{IsBlank}
use Rattle.mw_line_lent.specs.Differences.{HasDifferences}
use Rattle.mw_line_lent.proofs.differences.put_all.Given as goal

abbrev pub invariant-by_rows : goal.invariant-by_rows
invariant-by_rows g l = record {
  within : l.done ≤ l.boxes.height;
  upper_blank : IsBlank l.ends.bottom l.boxes l.uppers;
  lower_blank : IsBlank l.ends.top l.boxes l.lowers;
  size : length l.out ≡ length l.initial.out;
  made : HasDifferences g.P.Pixel.level g.U.Extremum.merge l.ends.bottom g.L.Extremum.merge l.ends.top l.lent l.boxes l.done l.out;
}

abbrev pub decreases-by_rows : goal.decreases-by_rows
decreases-by_rows g l = l.boxes.height - l.done
