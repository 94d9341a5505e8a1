use Rattle.std.proofs.Common.{◌≡◌, ℕ, false, Option, Vec, Global, ap, arith, subst, sym, ◌∙◌}
use Rattle.std.specs.Prelude.{slice_index_or}
use Rattle.mw_model.specs.Plans.{Planned, is_sum, no_picture}
use Rattle.mw_model.specs.Tasks.{flag, nothing_planned}
use Rattle.mw_c_direct.specs.declared.running.Run.{Run}
use Rattle.mw_c_direct.specs.Products.{IsNumberOf}
use Rattle.mw_c_direct.specs.Runs.{HasRun, planes_on}
use Rattle.mw_c_direct.proofs.Steps.{none_later, numbers_on, one_number}
use Rattle.mw_c_direct.proofs.running.numbers.Goals as goal
use Rattle.mw_c_direct.proofs.running.numbers.Goals.{then-is_sum+in_ok-provide+in_ok-n+in-Some+in_ok-push, then-is_sum+in_ok-provide+in_ok-n+in_default, else-is_sum}

pub steps-init : goal.steps-init
steps-init c = record {
  run = c.in_ok-run.ensures.run c.args.image.now;
  unmade = λ i le. c.in_ok-run.ensures.unmade i;
  numbers = c.new-numbers.ensures.items;
}

pub steps-preserved : goal.steps-preserved
steps-preserved c =
    let plan = c.args.plan.now in
    let image = c.args.image.now in
    let k = c.steps.k in
    let old = c.steps.run in
    let numbers = c.steps.numbers.items in
    let before = c.steps.invariant in
    let count = c.len-k-end.ensures in
    let in_time = c.steps-test.true in
    let number : Option ℕ → Type 0 = λ n. IsNumberOf (slice_index_or plan k nothing_planned).step (slice_index_or (planes_on plan image) k no_picture) n in
    elim c.if-is_sum.branch [
      | then-is_sum+in_ok-provide+in_ok-n+in-Some+in_ok-push w ↦
          record {
            run = subst (λ (r : Run). HasRun plan image r.made.items r.planes.items) (sym w.run-is) w.in_ok-n.ensures.run;
            unmade = λ i le.
                ap (λ (r : Run). flag r.made.items i) w.run-is
                ∙ none_later k old.made.items w.provide.new.self.made.items w.advance.new.self.made.items before.unmade w.in_ok-provide.ensures.later w.in_ok-n.ensures.made i le;
            numbers = ap (λ (v : Vec ℕ Global). v.items) w.numbers-is ∙ w.in_ok-push.ensures.items ∙ one_number plan image k w.in-Some.n numbers (omega (arith, count, in_time)) (subst number w.in-Some.is w.in_ok-n.ensures.number) before.numbers;
          }
      | then-is_sum+in_ok-provide+in_ok-n+in_default w ↦
          record {
            run = subst (λ (r : Run). HasRun plan image r.made.items r.planes.items) (sym w.run-is) w.in_ok-n.ensures.run;
            unmade = λ i le.
                ap (λ (r : Run). flag r.made.items i) w.run-is
                ∙ none_later k old.made.items w.provide.new.self.made.items w.advance.new.self.made.items before.unmade w.in_ok-provide.ensures.later w.in_ok-n.ensures.made i le;
            numbers = ap (λ (v : Vec ℕ Global). v.items) w.numbers-is ∙ numbers_on plan image k numbers (omega (arith, count, in_time)) (subst number w.in_default.is w.in_ok-n.ensures.number) before.numbers;
          }
      | else-is_sum w ↦
          let unsummed : is_sum (slice_index_or plan k nothing_planned).step ≡ false = ap (λ (s : Planned). is_sum s.step) (sym c.step.ensures) ∙ sym c.is_sum.ensures ∙ w.if-is_sum.false in
          record {
            run = subst (λ (r : Run). HasRun plan image r.made.items r.planes.items) (sym w.run-is) before.run;
            unmade = λ i le. ap (λ (r : Run). flag r.made.items i) w.run-is ∙ before.unmade i (omega (arith, le));
            numbers = ap (λ (v : Vec ℕ Global). v.items) w.numbers-is ∙ numbers_on plan image k numbers (omega (arith, count, in_time)) unsummed before.numbers;
          }
    ]
