use Rattle.std.proofs.Common.{arith}
use Rattle.mw_pool_passes.proofs.AuditLemmas.{added-none, added-all, all-beyond}
use Rattle.mw_pool_passes.proofs.stretches.tally.Goals as goal

pub loop-i-init : goal.loop-i-init
loop-i-init c = record {
  size = c.requires.size;
  added = added-none c.args.counts.now c.args.receipts.now c.args.base c.first_from-i.result (λ k within. omega (arith, c.type_inv.counts k)) c.first_from-i.ensures.before;
}

pub returns-then-offset-ge-BLOCK : goal.returns-then-offset-ge-BLOCK
returns-then-offset-ge-BLOCK c =
    added-all c.args.counts.now c.loop-i.counts c.args.receipts.now c.args.base c.loop-i.i c.loop-i.invariant.added
    (all-beyond c.args.receipts.now c.args.base c.loop-i.i _ c.requires.rising c.loop-i-test.true c.if-offset-ge-BLOCK.true)
