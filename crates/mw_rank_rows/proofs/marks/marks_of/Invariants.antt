use Rattle.std.proofs.Common.{ℕ, ◌≡◌, ◌+◌, ◌<◌, ◌&&◌, length, get_or, cond}
use Rattle.std.specs.Prelude.{nat_le, nat_lt}
use Rattle.mw_rank_rows.proofs.marks.marks_of.Given as goal

abbrev pub invariant-loop-i : goal.invariant-loop-i
invariant-loop-i l = record {
  size : length l.marks.items ≡ l.i;
  each : (p : ℕ) → p < l.i → get_or l.marks.items p 0 ≡ cond (nat_le 7 p && nat_lt p (l.rows + 7)) 1 0;
}
