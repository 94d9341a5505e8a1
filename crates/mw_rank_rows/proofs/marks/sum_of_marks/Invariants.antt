use Rattle.std.proofs.Common.{ℕ, ◌≡◌, ◌+◌, ◌<◌, length, get_or}
use Rattle.mw_rank_rows.specs.Columns.{total}
use Rattle.mw_rank_rows.proofs.marks.sum_of_marks.Given as goal

abbrev pub invariant-loop-i : goal.invariant-loop-i
invariant-loop-i l = record {
  size : length l.all ≡ 8;
  lanes : (j : ℕ) → j < 8 → get_or l.all j 0 ≡ total (λ i. get_or l.marks (i + j) 0) l.i;
}
