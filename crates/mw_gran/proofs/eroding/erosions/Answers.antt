use Rattle.std.proofs.Common.{◌≡◌, ℕ, suc, length, ap, arith, subst}
use Rattle.mw_plan.specs.mw_step_task.Meanings.{meaning}
use Rattle.mw_plan.specs.Seen.{source}
use Rattle.mw_gran.specs.Turns.{Erodes}
use Rattle.mw_gran.proofs.OneMore.{with_step, pushed_count}
use Rattle.mw_gran.proofs.Turns.{nothing_eroded, erodes_more}
use Rattle.mw_gran.proofs.eroding.erosions.Goals as goal

pub loop-done-init : goal.loop-done-init
loop-done-init c = record {
  count = ap length c.in_ok-plan.ensures;
  erodes = λ b slides. nothing_eroded b c.in_ok-plan.plan c.in_ok-plan.ensures;
}

pub loop-done-preserved : goal.loop-done-preserved
loop-done-preserved c = record {
  count = (let one : length c.add.new.plan ≡ suc (length c.loop-done.plan) = pushed_count _ _ _ _ _ c.in_ok-add.ensures in let before = c.loop-done.invariant.count in omega arith);
  erodes = λ b slides.
      erodes_more b c.loop-done.done c.loop-done.plan c.add.new.plan (source c.eroded.result) (source c.in_ok-add.field-0) (meaning c.args.steps.now.erode) (meaning c.args.steps.now.dilate) slides c.eroded.ensures
      (c.loop-done.invariant.erodes b slides) (with_step _ _ _ _ _ _ c.in_ok-share.ensures c.in_ok-add.ensures);
}

pub returns-clause-count : goal.returns-clause-count
returns-clause-count c = let before = c.loop-done.invariant.count in omega arith

pub returns-clause-erodes : goal.returns-clause-erodes
returns-clause-erodes c = λ b slides.
    let same : c.loop-done.done ≡ c.args.count = omega arith in
    subst (λ (n : ℕ). Erodes b n c.loop-done.plan) same (c.loop-done.invariant.erodes b slides)
