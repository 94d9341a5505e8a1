use Rattle.std.proofs.Common.{◌≡◌, ℕ, ◌+◌, ◌-◌, drop, fold, arith, ap, ◌∙◌}
use Rattle.mw_line.proofs.Folds.{fold_back, set_back, IsExtremum}
use Rattle.mw_line.proofs.passes.backward.Goals as goal

pub back-preserved : goal.back-preserved
back-preserved g c =
    let f = g.C.Counted.merge in
    let n = c.args.neutral in
    let block = c.args.block.now in
    let laws : IsExtremum f = record { commutes = g.met.C.Counted.commutes; associates = g.met.C.Counted.associates; is_idempotent = g.met.C.Counted.is_idempotent } in
    let up : c.back.at ≡ c.back.at - 1 + 1 = omega arith in
    let best : c.combine-best.result ≡ fold f n (drop (c.back.at - 1) block) =
    c.combine-best.ensures.value ∙ fold_back f laws n block (c.back.at - 1) c.index-block-at.result c.back.best (omega arith) c.index-block-at.is (c.back.invariant.best ∙ ap (λ (t : ℕ). fold f n (drop t block)) up) in
    record {
      within = omega arith;
      counted = omega arith;
      best = best;
      done = set_back c.back.tail (c.back.at - 1) c.combine-best.result n (λ r. fold f n (drop r block)) _ (omega arith) best (λ r from to. c.back.invariant.done r (omega arith) to);
    }
