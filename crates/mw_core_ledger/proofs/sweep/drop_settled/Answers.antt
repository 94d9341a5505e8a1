use Rattle.std.proofs.Common.{◌∙◌, ◌+◌, ◌<◌, ℕ, Bool, List, Option, length, arith, ap, subst, sym, cond, set, None, refl}
use Rattle.mw_model.specs.Refusals.{is_pending, outcome_at}
use Rattle.mw_core_tasks.specs.mw_core_progress.ProgressView.{ProgressView}
use Rattle.mw_core_ledger.proofs.SweepLemmas.{SweptTo, swept-more}
use Rattle.mw_core_ledger.proofs.sweep.drop_settled.Goals as goal

pub loop-t-preserved : goal.loop-t-preserved
loop-t-preserved c =
    let keeps : ℕ → Bool = λ k. is_pending (outcome_at c.args.store.now.table.outcomes k) in
    let t = c.loop-t.t in
    let within : t < length c.loop-t.in_progress = omega (arith, c.requires, c.loop-t.invariant.0, c.len-t-end.ensures.value, c.loop-t-test.true) in
    let passes = c.is_pending.ensures ∙ ap is_pending c.outcome.ensures in
    let now = c.keep_if.ensures ∙ ap (λ b. cond b c.loop-t.in_progress (set c.loop-t.in_progress t None)) passes in
    let P : List (Option ProgressView) → Type 0 = λ ws. SweptTo keeps c.args.in_progress.now ws (t + 1) in
    subst P (sym now) (swept-more keeps c.args.in_progress.now c.loop-t.in_progress t within (keeps t) refl c.loop-t.invariant)
