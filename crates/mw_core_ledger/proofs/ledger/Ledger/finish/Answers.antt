use Rattle.std.proofs.Common.{◌≡◌, ◌<◌, ◌≤◌, ◌&&◌, ◌∙◌, ℕ, true, nat_eq, None, length, set, ap, sym, subst, arith}
use Rattle.std.specs.List.{AllByRecursion, list_any}
use Rattle.mw_model.specs.declared.tasks.TaskId.{TaskId}
use Rattle.mw_model.specs.Refusals.{is_pending, outcome_at, shape_at}
use Rattle.mw_model.specs.Stands.{inputs_of}
use Rattle.mw_model.specs.Tasks.{remaining_tasks}
use Rattle.mw_core_tasks.specs.mw_store.Kept.{kept_value}
use Rattle.mw_core_ledger.specs.Books.{Book, IsOrderly, room_in, work_at}
use Rattle.mw_core_ledger.proofs.OrderLemmas.{none-left}
use Rattle.mw_core_ledger.proofs.SettleLemmas.{back-at, places-at, settles-at}
use Rattle.mw_core_ledger.proofs.ledger.Ledger.finish.Goals as goal

pub invariant_of-self : goal.invariant_of-self
invariant_of-self c =
    let b = c.self.inside in
    let u = c.finished-progress.result in
    let d = c.args.done in
    let mid : Book = record { table = b.store.table; kept = b.store.kept; in_progress = b.in_progress.items; log = b.log.items; side = b.side; room = room_in b.log.cap b.log.len b.store.table.outcomes } in
    let e = ap (λ (i : TaskId). i.ticket) c.task-t.ensures in
    let left : 1 ≤ remaining_tasks u.progress = omega (arith, c.if-remaining-gt0.true, c.remaining.ensures.value) in
    let P : Book → Type 0 = λ v. IsOrderly v in
    (c.self.invariant.0, subst P (sym (back-at c.args.self.now mid d.task.ticket c.task-t.result.ticket u e (c.self.view_is ∙ c.finished-progress.ensures.book))) (c.finished-progress.ensures.order left))

pub returns-then-remaining-gt0-clause-placed : goal.returns-then-remaining-gt0-clause-placed
returns-then-remaining-gt0-clause-placed c = λ _.
    let b = c.self.inside in
    let u = c.finished-progress.result in
    let mid : Book = record { table = b.store.table; kept = b.store.kept; in_progress = b.in_progress.items; log = b.log.items; side = b.side; room = room_in b.log.cap b.log.len b.store.table.outcomes } in
    let e = ap (λ (i : TaskId). i.ticket) c.task-t.ensures in
    let left : 1 ≤ remaining_tasks u.progress = omega (arith, c.if-remaining-gt0.true, c.remaining.ensures.value) in
    places-at c.args.self.now mid c.args.done c.task-t.result.ticket u e c.finished-progress.ensures.finishes (c.self.view_is ∙ c.finished-progress.ensures.book) left

pub settle-requires-clause-empty : goal.settle-requires-clause-empty
settle-requires-clause-empty c =
    let old = c.args.self.now in
    let t = c.args.done.task.ticket in
    let e = ap (λ (i : TaskId). i.ticket) c.task-t.ensures in
    ap (λ (v : Book). work_at v.in_progress c.task-t.result.ticket) c.finished-progress.ensures.book ∙ ap (work_at (set old.in_progress t None)) e ∙ none-left old.in_progress t

pub returns-clause-settled : goal.returns-clause-settled
returns-clause-settled c =
    let u = c.finished-progress.result in
    let e = ap (λ (i : TaskId). i.ticket) c.task-t.ensures in
    let told = c.settle.ensures in
    let last : remaining_tasks u.progress ≡ 0 = omega (arith, c.if-remaining-gt0.false, c.remaining.ensures.value) in
    let shaped = c.shape.ensures ∙ ap (λ (v : Book). shape_at v.table.submissions c.task-t.result.ticket) c.self.view_is in
    settles-at c.args.self.now c.finished-progress.new.self c.args.done c.task-t.result.ticket u c.settle.new.self c.shape.result (kept_value c.value_of-value.result) e c.finished-progress.ensures.finishes c.finished-progress.ensures.book last shaped c.value_of-value.ensures
    (record { table = told.table; kept = told.kept; in_progress = told.in_progress; log = told.log; side = told.side })

pub returns-clause-waiting : goal.returns-clause-waiting
returns-clause-waiting c =
    let e = ap (λ (i : TaskId). i.ticket) c.task-t.ensures in
    let w = c.settle.result in
    let old = c.args.self.now in
    let Mid : Book → Type 0 = λ v. (u : ℕ) → u < length v.table.names → (is_pending (outcome_at v.table.outcomes u) && list_any (nat_eq c.task-t.result.ticket) (inputs_of v.table u)) ≡ true → list_any (nat_eq u) w ≡ true in
    let At : ℕ → Type 0 = λ t. (u : ℕ) → u < length old.table.names → (is_pending (outcome_at old.table.outcomes u) && list_any (nat_eq t) (inputs_of old.table u)) ≡ true → list_any (nat_eq u) w ≡ true in
    subst At e (subst Mid c.finished-progress.ensures.book c.settle.ensures.waiting)

pub returns-clause-below : goal.returns-clause-below
returns-clause-below c =
    let Mid : Book → Type 0 = λ v. AllByRecursion (λ u. u < length v.table.names) c.settle.result in
    subst Mid c.finished-progress.ensures.book c.settle.ensures.below
