use Rattle.std.proofs.Common.{◌<◌}
use Rattle.mw_rank_counts.proofs.inner_columns.inner_places.Given as goal

abbrev pub invariant-loop-offset : goal.invariant-loop-offset
invariant-loop-offset l = record { left : l.left < 65536; right : l.right < 65536 }
