use Rattle.std.proofs.Common.{◌≡◌, ℕ, ◌-◌, ◌∙◌, ◌<◌, length, ap, sym, arith, inl, inr, refl}
use Rattle.std.proofs.lemmas.Bool.{cases_lt, eqb-true}
use Rattle.mw_ready_queue.specs.Queues.{list_at}
use Rattle.mw_ready_queue.specs.Shown.{items_of}
use Rattle.mw_ready_queue.proofs.Orders.{list-length}
use Rattle.mw_ready_queue.proofs.queue.lowered.Goals as goal

pub loop-step-preserved : goal.loop-step-preserved
loop-step-preserved c =
    let ready = c.args.ready.now in
    let before = c.loop-step.invariant in
    let within : c.loop-step.step - 1 < length ready = omega (arith, before.within, c.requires) in
    let empty : length (list_at (items_of ready) (c.loop-step.step - 1)) ≡ 0 = list-length ready (items_of ready) (c.loop-step.step - 1) c.index-ready-step.result 0 refl within c.index-ready-step.is (sym (eqb-true _ 0 (sym c.if-not-is_empty.ensures))) in
    record {
      within = omega (arith, before.within);
      none = λ s from lt. elim (cases_lt s c.loop-step.step) [
        | inl here ↦ ap (λ (k : ℕ). length (list_at (items_of ready) k)) (let e : s ≡ c.loop-step.step - 1 = omega arith in e) ∙ empty
        | inr past ↦ before.none s past lt
      ];
    }
