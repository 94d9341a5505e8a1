use Rattle.std.proofs.Common.{◌≡◌, ℕ, ◌+◌, ◌-◌, arith, subst}
use Rattle.mw_plan.specs.Seen.{source}
use Rattle.mw_model.specs.Plans.{FromStep}
use Rattle.mw_gran.specs.Turns.{Restores}
use Rattle.mw_gran.proofs.Turns.{restoration_begins, restoration_ends}
use Rattle.mw_gran.proofs.restorations.restoration.Goals as goal

pub loop-done-init : goal.loop-done-init
loop-done-init c =
    let levels = c.args.levels in
    record {
      count = (let all = c.in_ok-plan.ensures.count in omega arith);
      restores = λ b slides.
          let all : levels ≡ levels - 0 = omega arith in
          subst (λ (n : ℕ). Restores b levels n 0 c.in_ok-plan.plan (FromStep levels)) all (restoration_begins b levels c.in_ok-plan.plan c.in_ok-plan.ensures);
    }

pub loop-done-preserved : goal.loop-done-preserved
loop-done-preserved c =
    let levels = c.args.levels in
    let left = levels - (c.loop-done.done + 1) in
    let below : levels - c.loop-done.done ≡ left + 1 = omega arith in
    record {
      count = (let more = c.in_ok-restored.ensures.count in let before = c.loop-done.invariant.count in omega arith);
      restores = λ b slides.
          c.in_ok-restored.ensures.restores b levels left c.loop-done.done slides below (omega arith)
          (subst (λ (n : ℕ). Restores b levels n c.loop-done.done c.loop-done.plan (source c.loop-done.restored)) below (c.loop-done.invariant.restores b slides));
    }

pub returns : goal.returns
returns c = λ b slides.
    let levels = c.args.levels in
    let same : c.loop-done.done ≡ levels = omega arith in
    let none : levels - c.loop-done.done ≡ 0 = omega arith in
    restoration_ends b levels c.loop-done.plan (source c.loop-done.restored)
    (subst (λ (n : ℕ). Restores b levels 0 n c.loop-done.plan (source c.loop-done.restored)) same
    (subst (λ (n : ℕ). Restores b levels n c.loop-done.done c.loop-done.plan (source c.loop-done.restored)) none (c.loop-done.invariant.restores b slides)))
