use Rattle.std.proofs.Common.{◌≡◌, ◌∙◌, ◌%◌, ℕ, List, Some, length, refl, ap, sym, subst, arith}
use Rattle.mw_model.specs.declared.calls.Outcome.{Outcome}
use Rattle.mw_model.specs.declared.calls.Outcome.TheVariants as outcome
use Rattle.mw_model.specs.Refusals.{Table, outcome_at}
use Rattle.mw_core_tasks.specs.mw_core_progress.ProgressView.{ProgressView}
use Rattle.mw_core_ledger.specs.Books.{Book, room_in, work_at}
use Rattle.mw_core_ledger.proofs.OrderLemmas.{follows-orderly, under-set}
use Rattle.mw_core_ledger.proofs.ledger.Ledger.let_go.Goals as goal

pub invariant_of-self-2 : goal.invariant_of-self-2
invariant_of-self-2 c =
    let b = c.self.inside in
    let table = c.release.ensures.table in
    let old : Book = record { table = b.store.table; kept = b.store.kept; in_progress = b.in_progress.items; log = b.log.items; side = b.side; room = room_in b.log.cap b.log.len b.store.table.outcomes } in
    let new : Book = record { table = c.release.new.self.table; kept = c.release.new.self.kept; in_progress = b.in_progress.items; log = c.push_reserved.new.self.items; side = b.side; room = room_in c.push_reserved.new.self.cap c.push_reserved.new.self.len c.release.new.self.table.outcomes } in (
      (omega (arith, c.pending.ensures.value, c.in_ok-make_places.ensures.ok, c.make_places.ensures.len, c.release.ensures.pending, c.push_reserved.ensures.len, c.push_reserved.ensures.capacity), ap (λ (n : ℕ). n % 16) c.push_reserved.ensures.capacity ∙ c.make_places.ensures.rows, c.self.invariant.0.2),
      follows-orderly old new c.self.invariant.1 (record {
        stored = c.pending-whole.ensures.whole;
        submissions = ap (λ (w : Table). w.submissions) table;
        names = ap (λ (w : Table). length w.names) table;
        count = refl;
        in_progress = λ t u h. h;
        under = subst (λ (os : List Outcome). (k : ℕ) (u : ProgressView) → work_at b.in_progress.items k ≡ Some u → outcome_at os k ≡ outcome.Pending) (sym (ap (λ (w : Table). w.outcomes) table))
            (under-set b.store.table.outcomes b.in_progress.items c.args.t outcome.Released (λ u h. (let pends = c.self.invariant.1.under c.args.t u h in let done : outcome_at b.store.table.outcomes c.args.t ≡ outcome.Done = subst (λ (x : Book). outcome_at x.table.outcomes c.args.t ≡ outcome.Done) (sym c.self.view_is) c.requires.done in let both = sym pends ∙ done in cc)) c.self.invariant.1.under);
        side = refl;
      }),
    )
