use Rattle.std.proofs.Common.{◌≡◌, ◌∙◌, ◌%◌, ℕ, ◌<◌, cond, List, Option, Some, None, length, refl, ap, sym, subst, arith}
use Rattle.std.proofs.lemmas.List.{get_or-set_other, get_or-set_same}
use Rattle.mw_model.specs.declared.calls.Outcome.TheVariants as outcome
use Rattle.mw_model.specs.Machine.{killed}
use Rattle.mw_model.specs.Refusals.{Table, is_pending, outcome_at}
use Rattle.mw_core_tasks.specs.mw_core_progress.ProgressView.{ProgressView}
use Rattle.mw_core_ledger.specs.Books.{Book, IsOrderly, work_at, room_in}
use Rattle.mw_core_ledger.proofs.OrderLemmas.{follows-orderly, swept-under, swept-was}
use Rattle.mw_core_ledger.proofs.WorkLemmas.{written-back}
use Rattle.mw_core_ledger.proofs.ledger.Ledger.end.Goals as goal

pub drop_ended-requires-clause-count : goal.drop_ended-requires-clause-count
unfolding killed
drop_ended-requires-clause-count c = ap (λ (xs : List (Option ProgressView)). length xs) c.deref_mut.ensures.value ∙ c.self.invariant.1.in_progress ∙ sym (ap (λ (w : Table). length w.names) c.kill.ensures.table)

pub drop_ended-requires-clause-ended : goal.drop_ended-requires-clause-ended
drop_ended-requires-clause-ended c = λ nobody.
    let b = c.self.inside in
    let table = c.kill.ensures.alone (sym c.is_wanted-wanted.ensures ∙ nobody) in
    let named : c.args.t < length b.store.table.names = let R : Book → Type 0 = λ v. c.args.t < length v.table.names in subst R (sym c.self.view_is) c.requires.within in
    let within : c.args.t < length b.store.table.outcomes = omega (arith, named, c.self.invariant.1.stored.outcomes) in
    ap (λ (w : Table). is_pending (outcome_at w.outcomes c.args.t)) table ∙ ap is_pending (get_or-set_same b.store.table.outcomes c.args.t c.args.cause outcome.Pending within) ∙ c.requires.dead

pub drop_ended-requires-clause-others : goal.drop_ended-requires-clause-others
drop_ended-requires-clause-others c = λ nobody k u other there.
    let b = c.self.inside in
    let table = c.kill.ensures.alone (sym c.is_wanted-wanted.ensures ∙ nobody) in
    let was : outcome_at b.store.table.outcomes k ≡ outcome.Pending = c.self.invariant.1.under k u (sym (ap (λ (xs : List (Option ProgressView)). work_at xs k) c.deref_mut.ensures.value) ∙ there) in
    ap (λ (w : Table). is_pending (outcome_at w.outcomes k)) table ∙ ap is_pending (get_or-set_other b.store.table.outcomes c.args.t k c.args.cause outcome.Pending other ∙ was)

pub invariant_of-self : goal.invariant_of-self
unfolding killed
invariant_of-self c =
    let b = c.self.inside in
    let table = c.kill.ensures.table in
    let ws = c.drop_ended.new.in_progress in
    let old : Book = record { table = b.store.table; kept = b.store.kept; in_progress = b.in_progress.items; log = b.log.items; side = b.side; room = room_in b.log.cap b.log.len b.store.table.outcomes } in
    let new : Book = record { table = c.kill.new.self.table; kept = c.kill.new.self.kept; in_progress = ws; log = c.push_reserved.new.self.items; side = b.side; room = room_in c.push_reserved.new.self.cap c.push_reserved.new.self.len c.kill.new.self.table.outcomes } in
    let count : length ws ≡ length b.in_progress.items = omega (arith, c.drop_ended.auto.in_progress, ap (λ (xs : List (Option ProgressView)). length xs) c.deref_mut.ensures.value) in
    let was = λ (t : ℕ) (u : ProgressView) (h : work_at ws t ≡ Some u).
    swept-was (is_pending (outcome_at new.table.outcomes t)) (work_at ws t) (work_at old.in_progress t) u (c.drop_ended.ensures.swept t ∙ ap (λ (xs : List (Option ProgressView)). cond (is_pending (outcome_at new.table.outcomes t)) (work_at xs t) None) c.deref_mut.ensures.value) h in
    let order = follows-orderly old new c.self.invariant.1 (record {
      stored = c.pending-whole.ensures.whole;
      submissions = ap (λ (w : Table). w.submissions) table;
      names = ap (λ (w : Table). length w.names) table;
      count = count;
      in_progress = was;
      under = λ t u h. swept-under (outcome_at new.table.outcomes t) (work_at ws t) (work_at old.in_progress t) u (c.drop_ended.ensures.swept t ∙ ap (λ (xs : List (Option ProgressView)). cond (is_pending (outcome_at new.table.outcomes t)) (work_at xs t) None) c.deref_mut.ensures.value) h;
      side = refl;
    }) in
    let P : List (Option ProgressView) → Type 0 = λ xs. IsOrderly (record new { in_progress = xs }) in (
      (omega (arith, c.kill.ensures.pending, c.push_reserved.ensures.len, c.push_reserved.ensures.capacity, c.self.invariant.0.0), ap (λ (n : ℕ). n % 16) c.push_reserved.ensures.capacity ∙ c.self.invariant.0.1, c.self.invariant.0.2),
      subst P (sym (written-back b.in_progress.len ws _ (omega (arith, b.in_progress.ok.0, count)))) order,
    )
