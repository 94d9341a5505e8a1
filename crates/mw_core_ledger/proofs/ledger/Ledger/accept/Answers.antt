use Rattle.std.proofs.Common.{◌≡◌, ◌∷◌, [], ◌++◌, ◌+◌, ◌%◌, ◌≤◌, ◌∙◌, ℕ, Option, List, count_by, subst, sym, ap, arith}
use Rattle.mw_model.proofs.mw_facts.Numbers.{one_if-le}
use Rattle.mw_model.specs.Refusals.{Table, is_pending}
use Rattle.mw_core_tasks.specs.mw_core_progress.ProgressView.{ProgressView}
use Rattle.mw_core_tasks.specs.mw_store.Entries.{submission_of, outcome_of}
use Rattle.mw_core_tasks.specs.mw_store.RowRoom.{HasRow}
use Rattle.mw_core_tasks.specs.mw_store.Stored.{StoreIsWhole, Stored}
use Rattle.mw_core_tasks.proofs.mw_store.CascadeLemmas.{count-push}
use Rattle.mw_core_ledger.specs.Books.{Book, IsOrderly, room_in}
use Rattle.mw_core_ledger.proofs.OrderLemmas.{CanJoin, alike-orderly, joined-orderly, planned-pends}
use Rattle.mw_core_ledger.proofs.ledger.Ledger.accept.Goals as goal

pub invariant_of-self-2 : goal.invariant_of-self-2
invariant_of-self-2 c =
    let e = submission_of c.args.entry in
    let Joins : Book → Type 0 = λ b. CanJoin b e c.args.progress in
    let can : CanJoin c.args.self.now e c.args.progress = record { below = c.requires.below; fits = c.requires.fits; planned = c.requires.planned; left = c.requires.left; most = c.requires.most } in
    let book : Book
    = record { table = c.self.inside.store.table; kept = c.self.inside.store.kept; in_progress = c.self.inside.in_progress.items; log = c.self.inside.log.items; side = c.self.inside.side; room = room_in c.self.inside.log.cap c.self.inside.log.len c.self.inside.store.table.outcomes } in
    let room = room_in c.push_reserved-2.new.self.cap c.push_reserved-2.new.self.len c.add.new.self.table.outcomes in
    let table = c.in_ok-t.ensures.table in
    let Whole : Table → Type 0 = λ w. StoreIsWhole (record { table = w; kept = c.add.new.self.kept }) in
    let whole = subst Whole table c.pending-whole.ensures.whole in
    let order = joined-orderly book c.args.name e (outcome_of c.args.entry) c.add.new.self.kept c.args.progress c.push_reserved-2.new.self.items room c.self.invariant.1 (subst Joins (sym c.self.view_is) can) (planned-pends c.args.self.now.table c.args.entry c.args.progress c.requires.planned) whole in
    let Tabled : Table → Type 0 = λ w. IsOrderly (record { table = w; kept = c.add.new.self.kept; in_progress = book.in_progress ++ c.args.progress ∷ []; log = c.push_reserved-2.new.self.items; side = book.side; room = room }) in
    let Worked : List (Option ProgressView) → Type 0 = λ ws. IsOrderly (record { table = c.add.new.self.table; kept = c.add.new.self.kept; in_progress = ws; log = c.push_reserved-2.new.self.items; side = book.side; room = room }) in
    let pushed = c.push_reserved.ensures.items ∙ ap (λ (ws : List (Option ProgressView)). ws ++ c.args.progress ∷ []) c.reserve_row.ensures.items in
    let pending = ap (λ (w : Table). count_by is_pending w.outcomes) table in (
      (
        omega (arith, pending, count-push book.table.outcomes (outcome_of c.args.entry), one_if-le (is_pending (outcome_of c.args.entry)), c.pending.ensures.value, c.in_ok-make_places.ensures.ok, c.make_places.ensures.len, c.push_reserved-2.ensures.len, c.push_reserved-2.ensures.capacity),
        ap (λ (n : ℕ). n % 16) c.push_reserved-2.ensures.capacity ∙ c.make_places.ensures.rows,
        omega (arith, c.in_ok-reserve_row.ensures.row, c.reserve_row.ensures.len, c.push_reserved.ensures.len, c.push_reserved.ensures.capacity),
      ),
      subst Worked (sym pushed) (subst Tabled (sym table) order),
    )

pub invariant_of-self-in_err-reserve_row : goal.invariant_of-self-in_err-reserve_row
invariant_of-self-in_err-reserve_row c =
    let b = c.self.inside in
    let log = c.make_places.new.log in
    let book : Book = record { table = b.store.table; kept = b.store.kept; in_progress = b.in_progress.items; log = b.log.items; side = b.side; room = room_in b.log.cap b.log.len b.store.table.outcomes } in (
      (
        omega (arith, c.pending.ensures.value, c.in_ok-make_places.ensures.ok, c.make_places.ensures.len),
        c.make_places.ensures.rows,
        omega (arith, c.self.invariant.0.2, c.reserve_row.ensures.len, c.reserve_row.ensures.capacity),
      ),
      alike-orderly book c.reserve_row.new.column.items log.items (room_in log.cap log.len b.store.table.outcomes) c.self.invariant.1 c.reserve_row.ensures.items,
    )

pub invariant_of-self-in_err-t : goal.invariant_of-self-in_err-t
invariant_of-self-in_err-t c =
    let b = c.self.inside in
    let log = c.make_places.new.log in
    let in_progress = c.reserve_row.new.column in
    let book : Book = record { table = b.store.table; kept = b.store.kept; in_progress = b.in_progress.items; log = b.log.items; side = b.side; room = room_in b.log.cap b.log.len b.store.table.outcomes } in
    let Holds : Stored → Type 0 = λ s. ((log.len + count_by is_pending s.table.outcomes ≤ log.cap) × (log.cap % 16 ≡ 0) × HasRow in_progress.len in_progress.cap)
    × IsOrderly (record { table = s.table; kept = s.kept; in_progress = in_progress.items; log = log.items; side = b.side; room = room_in log.cap log.len s.table.outcomes }) in
    subst Holds (sym c.in_err-t.ensures.err) (
      (
        omega (arith, c.pending.ensures.value, c.in_ok-make_places.ensures.ok, c.make_places.ensures.len),
        c.make_places.ensures.rows,
        omega (arith, c.self.invariant.0.2, c.reserve_row.ensures.len, c.reserve_row.ensures.capacity),
      ),
      alike-orderly book in_progress.items log.items (room_in log.cap log.len b.store.table.outcomes) c.self.invariant.1 c.reserve_row.ensures.items,
    )
