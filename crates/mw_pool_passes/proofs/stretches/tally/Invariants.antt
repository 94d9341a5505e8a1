use Rattle.std.proofs.Common.{◌≡◌, length}
use Rattle.mw_pool_passes.proofs.AuditLemmas.{Added}
use Rattle.mw_pool_passes.proofs.stretches.tally.Given as goal

abbrev pub invariant-loop-i : goal.invariant-loop-i
invariant-loop-i l = record {
  size : length l.counts ≡ 4096;
  added : Added l.fn.counts l.counts l.receipts l.base l.i;
}
