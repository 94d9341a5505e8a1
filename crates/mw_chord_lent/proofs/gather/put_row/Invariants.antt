use Rattle.std.proofs.Common.{◌≡◌, ℕ, ◌+◌, ◌-◌, ◌<◌, ◌≤◌, get_or}
use Rattle.mw_line_lent.specs.Boxes.{IsPutAt}
use Rattle.mw_chord_lent.specs.Placed.{gathered_at}
use Rattle.mw_chord_lent.proofs.gather.put_row.Given as goal

abbrev pub invariant-by_block : goal.invariant-by_block
invariant-by_block g l = record {
  within : l.done ≤ l.n;
  put : IsPutAt l.at l.n l.initial.out l.out;
  made : (i : ℕ) → i < l.done → get_or l.out (l.at + i) l.neutral ≡ gathered_at g.E.Extremum.merge l.lists l.neutral (l.from + i) l.neutral l.places;
}

abbrev pub decreases-by_block : goal.decreases-by_block
decreases-by_block g l = l.n - l.done
