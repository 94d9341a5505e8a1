use Rattle.std.proofs.Common.{◌≡◌, ℕ, ◌+◌, ◌-◌, ◌*◌, ◌<◌, ◌≤◌, get_or}
use Rattle.mw_line_lent.specs.Boxes.{IsPutInRows}
use Rattle.mw_chord_lent.specs.Placed.{gathered_at}
use Rattle.mw_chord_lent.proofs.gather.put_by_columns.Given as goal

abbrev pub invariant-by_block : goal.invariant-by_block
invariant-by_block g l = record {
  within : l.done ≤ l.n;
  put : IsPutInRows l.rows.high l.rows.at l.n l.rows.apart l.initial.out l.out;
  made : (r i : ℕ) → r < l.rows.high → i < l.done → get_or l.out (l.rows.at + r * l.rows.apart + i) l.neutral ≡ gathered_at g.E.Extremum.merge l.lists l.neutral (r * l.rows.wide + i) l.neutral l.places;
}

abbrev pub decreases-by_block : goal.decreases-by_block
decreases-by_block g l = l.n - l.done
