use Rattle.std.proofs.Common.{◌≡◌, ℕ, ◌+◌, ◌-◌, ◌*◌, ◌<◌, ◌≤◌, get_or}
use Rattle.mw_line_lent.specs.Boxes.{IsPutAt}
use Rattle.mw_offset_lent.specs.Places.{merged_at}
use Rattle.mw_offset_lent.proofs.rows.put_rows.Given as goal

abbrev pub invariant-by_rows : goal.invariant-by_rows
invariant-by_rows g l = record {
  within : l.done ≤ l.rows.high;
  put : IsPutAt l.rows.at (l.done * l.split.width) l.initial.out l.out;
  made : (r i : ℕ) → r < l.done → i < l.split.width → get_or l.out (l.rows.at + (r * l.split.width + i)) l.neutral ≡ merged_at g.E.Extremum.merge l.cells l.neutral (r * l.split.wide + i) l.neutral l.split.all.now;
}

abbrev pub decreases-by_rows : goal.decreases-by_rows
decreases-by_rows g l = l.rows.high - l.done
