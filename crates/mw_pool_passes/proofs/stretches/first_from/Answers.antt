use Rattle.std.proofs.Common.{◌+◌, ◌-◌, ◌/◌, arith}
use Rattle.mw_pool_passes.proofs.AuditLemmas.{all-before, all-behind}
use Rattle.mw_pool_passes.proofs.stretches.first_from.Goals as goal

pub halving-preserved-then-receipts-middle : goal.halving-preserved-then-receipts-middle
halving-preserved-then-receipts-middle c =
    let low = c.halving.low in
    let high = c.halving.high in
    let open_still = c.halving-test.true in
    let order = c.halving.invariant.order in
    let inside = c.halving.invariant.within in
    record {
      order = omega arith;
      within = inside;
      before = all-before c.args.receipts.now c.args.place (low + (high - low) / 2) _ c.requires (omega arith) c.if-receipts-middle.true;
      behind = c.halving.invariant.behind;
    }

pub halving-preserved : goal.halving-preserved
halving-preserved c =
    let low = c.halving.low in
    let high = c.halving.high in
    let open_still = c.halving-test.true in
    let order = c.halving.invariant.order in
    let inside = c.halving.invariant.within in
    record {
      order = omega arith;
      within = omega arith;
      before = c.halving.invariant.before;
      behind = all-behind c.args.receipts.now c.args.place (low + (high - low) / 2) _ c.requires (omega arith) c.if-receipts-middle.false;
    }
