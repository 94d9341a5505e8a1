use Rattle.std.proofs.Common.{◌≡◌, ℕ, suc, ◌+◌, length, arith, subst}
use Rattle.mw_model.specs.Flat.{dilation, reflected}
use Rattle.mw_model.specs.Iterates.{times}
use Rattle.mw_model.specs.Pictures.{IsPicture}
use Rattle.mw_plan.specs.mw_step_task.Meanings.{meaning}
use Rattle.mw_plan.specs.Seen.{source}
use Rattle.mw_gran.specs.Growing.{ShowsOperator}
use Rattle.mw_gran.specs.Turns.{Tells}
use Rattle.mw_gran.proofs.OneMore.{with_step, pushed_count}
use Rattle.mw_gran.proofs.Turns.{dilated_more, still_shown}
use Rattle.mw_gran.proofs.spectra.dilated.Goals as goal

pub loop-done-init : goal.loop-done-init
loop-done-init c = record {
  count = omega arith;
  kept = λ r operator shows. shows;
  grown = λ b count numbers before slides tells shows. let same : count ≡ count + 0 = omega arith in (subst (λ (n : ℕ). Tells c.args.plan.now n numbers) same tells, shows);
}

pub add-requires : goal.add-requires
add-requires c = let before = c.loop-done.invariant.count in omega arith

pub loop-done-preserved : goal.loop-done-preserved
loop-done-preserved c = record {
  count = (let one : length c.add.new.plan ≡ suc (length c.loop-done.plan) = pushed_count _ _ _ _ _ c.in_ok-grown.ensures in let before = c.loop-done.invariant.count in omega arith);
  kept = λ r operator shows. still_shown _ _ _ _ _ c.in_ok-grown.ensures r operator (c.loop-done.invariant.kept r operator shows);
  grown = λ b count numbers before slides tells shows.
      let at = c.loop-done.invariant.grown b count numbers before slides tells shows in
      dilated_more b c.loop-done._done count numbers before c.loop-done.plan c.add.new.plan (source c.loop-done.grown) (source c.in_ok-grown.grown) (meaning c.args.steps.now.erode) (meaning c.args.steps.now.dilate) slides at.0 at.1
      (with_step _ _ _ _ _ _ c.in_ok-share.ensures c.in_ok-grown.ensures);
}

pub returns-clause-kept : goal.returns-clause-kept
returns-clause-kept c = c.loop-done.invariant.kept

pub returns-clause-grown : goal.returns-clause-grown
returns-clause-grown c = λ b count numbers before slides tells shows.
    let at = c.loop-done.invariant.grown b count numbers before slides tells shows in
    let same : c.loop-done._done ≡ c.args.n = omega arith in (
      subst (λ (k : ℕ). Tells c.loop-done.plan (count + k) numbers) same at.0,
      subst (λ (k : ℕ). ShowsOperator IsPicture c.loop-done.plan (source c.loop-done.grown) (λ f. times k (dilation (reflected b)) (before f))) same at.1,
    )

pub returns-clause-count : goal.returns-clause-count
returns-clause-count c = let before = c.loop-done.invariant.count in omega arith
