use Rattle.std.proofs.Common.{◌≡◌, ℕ, ◌+◌, ◌≤◌, ◌++◌, length, drop, vec_len, sym, ap, subst, ◌∙◌, arith}
use Rattle.std.specs.Prelude.{vec_capacity}
use Rattle.std.specs.Global.{Vec}
use Rattle.std.proofs.lemmas.List.{get_or_read}
use Rattle.mw_model.specs.Plans.{Planned, is_sum}
use Rattle.mw_core_planes.specs.mw_tile_planes.Sums.{number_in}
use Rattle.mw_core_planes.specs.StepPlanes.{shown, no_place, planes_shown}
use Rattle.mw_core_planes.specs.declared.step_planes.StepPlane.{StepPlane}
use Rattle.mw_core_progress.specs.ProgressView.{numbers_of}
use Rattle.mw_core_progress.proofs.Totals.{more_sum, more_none}
use Rattle.mw_core_progress.proofs.progress.add_numbers.Goals as goal
use Rattle.mw_core_progress.proofs.progress.add_numbers.Goals.{then-is_sum, else-is_sum}

pub loop-k-preserved : goal.loop-k-preserved
loop-k-preserved c =
    let a = c.args in
    let k = c.loop-k.k in
    let v = c.loop-k.invariant in
    let sums = sym (c.is_sum.ensures ∙ ap (λ (q : Planned). is_sum q.step) c.step.ensures) in
    elim c.if-is_sum.branch [
      | then-is_sum w ↦ record {
        left = subst (λ (n : Vec ℕ). n.items ++ numbers_of (drop (k + 1) a.plan.now) (planes_shown a.grid (drop (k + 1) a.places.now)) ≡ numbers_of a.plan.now (planes_shown a.grid a.places.now)) (sym w.numbers-is)
            (more_sum a.plan.now a.grid a.places.now k c.loop-k.numbers.items w.push_reserved.new.self.items w.total.result (omega (arith, c.loop-k-test.true)) c.requires.count v.left (sums ∙ w.if-is_sum.true)
            (w.total.ensures ∙ ap (λ (p : StepPlane). number_in (shown a.grid p)) (get_or_read a.places.now k w.index-places-k.result (omega (arith, c.loop-k-test.true, c.requires.count)) w.index-places-k.is no_place)) w.push_reserved.ensures.items);
        few = subst (λ (n : Vec ℕ). vec_len n ≤ k + 1) (sym w.numbers-is) (omega (arith, w.push_reserved.ensures.len, v.few));
        room = subst (λ (n : Vec ℕ). length a.plan.now ≤ vec_capacity n) (sym w.numbers-is) (omega (arith, w.push_reserved.ensures.capacity, v.room));
      }
      | else-is_sum w ↦ record {
        left = subst (λ (n : Vec ℕ). n.items ++ numbers_of (drop (k + 1) a.plan.now) (planes_shown a.grid (drop (k + 1) a.places.now)) ≡ numbers_of a.plan.now (planes_shown a.grid a.places.now)) (sym w.numbers-is)
            (more_none a.plan.now a.grid a.places.now k c.loop-k.numbers.items (omega (arith, c.loop-k-test.true)) c.requires.count v.left (sums ∙ w.if-is_sum.false));
        few = subst (λ (n : Vec ℕ). vec_len n ≤ k + 1) (sym w.numbers-is) (omega (arith, v.few));
        room = subst (λ (n : Vec ℕ). length a.plan.now ≤ vec_capacity n) (sym w.numbers-is) v.room;
      }
    ]
