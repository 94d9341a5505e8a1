use Rattle.std.proofs.Common.{◌≡◌, ℕ, ◌+◌, ◌-◌, ◌*◌, ◌<◌, ◌≤◌, get_or}
use Rattle.mw_line_lent.specs.Boxes.{IsPutInRows}
use Rattle.mw_offset_lent.specs.Places.{merged_at}
use Rattle.mw_offset_lent.proofs.wide.put_wide_over.Given as goal

abbrev pub invariant-by_block : goal.invariant-by_block
invariant-by_block g l = record {
  within : l.done ≤ l.n;
  put : IsPutInRows 2 l.two.at l.n l.two.apart l.initial.out l.out;
  made : (r i : ℕ) → r < 2 → i < l.done → get_or l.out (l.two.at + r * l.two.apart + i) l.neutral ≡ merged_at g.E.Extremum.merge l.cells l.neutral (l.from + r * l.counted.split.ahead + i) l.neutral l.counted.split.all.now;
}

abbrev pub decreases-by_block : goal.decreases-by_block
decreases-by_block g l = l.n - l.done
