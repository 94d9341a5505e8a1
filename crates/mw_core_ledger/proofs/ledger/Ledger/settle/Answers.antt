use Rattle.std.proofs.Common.{◌≡◌, ◌∙◌, ◌%◌, ℕ, ◌<◌, List, Some, None, length, refl, ap, sym, subst, arith}
use Rattle.mw_model.specs.declared.calls.Outcome.{Outcome}
use Rattle.mw_model.specs.declared.calls.Outcome.TheVariants as outcome
use Rattle.mw_core_tasks.specs.mw_core_progress.ProgressView.{ProgressView}
use Rattle.std.specs.List.{AllByRecursion}
use Rattle.mw_model.specs.Refusals.{Table, outcome_at}
use Rattle.mw_core_ledger.specs.Books.{Book, room_in, work_at}
use Rattle.mw_core_ledger.proofs.OrderLemmas.{follows-orderly, under-set}
use Rattle.mw_core_ledger.proofs.ledger.Ledger.settle.Goals as goal

pub invariant_of-self : goal.invariant_of-self
invariant_of-self c =
    let b = c.self.inside in
    let told = c.settle-waiters.ensures in
    let old : Book = record { table = b.store.table; kept = b.store.kept; in_progress = b.in_progress.items; log = b.log.items; side = b.side; room = room_in b.log.cap b.log.len b.store.table.outcomes } in
    let new : Book = record { table = c.settle-waiters.new.self.table; kept = c.settle-waiters.new.self.kept; in_progress = b.in_progress.items; log = c.push_reserved.new.self.items; side = b.side; room = room_in c.push_reserved.new.self.cap c.push_reserved.new.self.len c.settle-waiters.new.self.table.outcomes } in (
      (omega (arith, told.pending, c.push_reserved.ensures.len, c.push_reserved.ensures.capacity, c.self.invariant.0.0), ap (λ (n : ℕ). n % 16) c.push_reserved.ensures.capacity ∙ c.self.invariant.0.1, c.self.invariant.0.2),
      follows-orderly old new c.self.invariant.1 (record {
        stored = c.pending-whole.ensures.whole;
        submissions = ap (λ (w : Table). w.submissions) told.table;
        names = ap (λ (w : Table). length w.names) told.table;
        count = refl;
        in_progress = λ t u h. h;
        under = subst (λ (os : List Outcome). (k : ℕ) (u : ProgressView) → work_at b.in_progress.items k ≡ Some u → outcome_at os k ≡ outcome.Pending) (sym (ap (λ (w : Table). w.outcomes) told.table))
            (under-set b.store.table.outcomes b.in_progress.items c.args.t outcome.Done (λ u h. (let none : work_at b.in_progress.items c.args.t ≡ None = subst (λ (x : Book). work_at x.in_progress c.args.t ≡ None) (sym c.self.view_is) c.requires.empty in let both = sym none ∙ h in cc)) c.self.invariant.1.under);
        side = refl;
      }),
    )

pub returns-clause-below : goal.returns-clause-below
returns-clause-below c =
    let P : Book → Type 0 = λ v. AllByRecursion (λ u. u < length v.table.names) c.settle-waiters.result in
    subst P c.self.view_is c.settle-waiters.ensures.below
