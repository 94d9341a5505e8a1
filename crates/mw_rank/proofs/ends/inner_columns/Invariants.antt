use Rattle.std.proofs.Common.{◌≤◌, ◌^◌}
use Rattle.mw_rank.proofs.ends.inner_columns.Given as goal

abbrev pub invariant-loop-run : goal.invariant-loop-run
invariant-loop-run l = record { left : l.left ≤ 2 ^ 34; right : l.right ≤ 2 ^ 34 }
