use Rattle.std.proofs.Common.{◌≤◌}
use Rattle.mw_line_lent.specs.Sheets.{HasTails, IsSheet}
use Rattle.mw_line_lent.proofs.tall.put_tails.Given as goal

abbrev pub invariant-by_rows : goal.invariant-by_rows
invariant-by_rows g l = record {
  few : l.left ≤ l.tall.boxes.down;
  sheet : IsSheet l.neutral l.tall.boxes l.sheet;
  tails : HasTails g.E.Extremum.merge l.neutral l.lent l.tall.boxes l.first l.left l.sheet;
}

abbrev pub decreases-by_rows : goal.decreases-by_rows
decreases-by_rows g l = l.left
