use Rattle.std.proofs.Common.{◌≡◌, ◌∙◌, ◌+◌, ◌&&◌, ◌<◌, ℕ, true, [], ◌∷◌, ◌++◌, List, length, length-append, map, slice_index_or, option_map, inl, inr, ap, sym, refl, subst, arith}
use Rattle.std.specs.List.{AllByRecursion}
use Rattle.std.proofs.lemmas.List.{map-append, take_at, length-map}
use Rattle.std.proofs.lemmas.Bool.{and_parts}
use Rattle.indexmap.specs.IndexSet.{spare}
use Rattle.mw_model.specs.Refusals.{is_pending, outcome_at, ticket_of}
use Rattle.mw_model.specs.Names.{same_name}
use Rattle.mw_model.specs.Values.{tickets}
use Rattle.mw_store.specs.Kept.{kept_value}
use Rattle.mw_store.specs.RowRoom.{HasRowOfEach}
use Rattle.mw_store.specs.Stored.{Stored}
use Rattle.mw_store.specs.Waiting.{Waiting, entry_for, waiting_at}
use Rattle.mw_store.specs.Wanted.{is_among, one_if}
use Rattle.mw_store.proofs.AddLemmas.{added}
use Rattle.mw_store.proofs.Living.{NoneDead}
use Rattle.mw_store.proofs.PlaceLemmas.{on_err, row-more, rows-full}
use Rattle.mw_store.proofs.Tracking.{push-tracked, tracked-lists, wanted-small, zero-behind}
use Rattle.mw_store.proofs.columns.Store.push.Goals as goal

pub invariant_of-self-in_err-reserve_row-2 : goal.invariant_of-self-in_err-reserve_row-2
invariant_of-self-in_err-reserve_row-2 c = rw (c.reserve_row.ensures.items, c.reserve_row-2.ensures.items) (c.self.invariant.0, record { submissions = row-more _ _ _ c.self.invariant.1.submissions c.reserve_row.ensures.capacity; outcomes = row-more _ _ _ c.self.invariant.1.outcomes c.reserve_row-2.ensures.capacity; kept = c.self.invariant.1.kept; wanted = c.self.invariant.1.wanted; waiting = c.self.invariant.1.waiting; names = c.self.invariant.1.names })

pub invariant_of-self-in_err-reserve_row-3 : goal.invariant_of-self-in_err-reserve_row-3
invariant_of-self-in_err-reserve_row-3 c = rw (c.reserve_row.ensures.items, c.reserve_row-2.ensures.items, c.reserve_row-3.ensures.items) (c.self.invariant.0, record { submissions = row-more _ _ _ c.self.invariant.1.submissions c.reserve_row.ensures.capacity; outcomes = row-more _ _ _ c.self.invariant.1.outcomes c.reserve_row-2.ensures.capacity; kept = row-more _ _ _ c.self.invariant.1.kept c.reserve_row-3.ensures.capacity; wanted = c.self.invariant.1.wanted; waiting = c.self.invariant.1.waiting; names = c.self.invariant.1.names })

pub invariant_of-self-in_err-reserve_row-4 : goal.invariant_of-self-in_err-reserve_row-4
invariant_of-self-in_err-reserve_row-4 c = rw (c.reserve_row.ensures.items, c.reserve_row-2.ensures.items, c.reserve_row-3.ensures.items, c.reserve_row-4.ensures.items) (c.self.invariant.0, record { submissions = row-more _ _ _ c.self.invariant.1.submissions c.reserve_row.ensures.capacity; outcomes = row-more _ _ _ c.self.invariant.1.outcomes c.reserve_row-2.ensures.capacity; kept = row-more _ _ _ c.self.invariant.1.kept c.reserve_row-3.ensures.capacity; wanted = row-more _ _ _ c.self.invariant.1.wanted c.reserve_row-4.ensures.capacity; waiting = c.self.invariant.1.waiting; names = c.self.invariant.1.names })

pub invariant_of-self-in_err-reserve_inputs : goal.invariant_of-self-in_err-reserve_inputs
invariant_of-self-in_err-reserve_inputs c =
    let a = c.self.inside in
    let s : Stored = record { table = record { names = a.names.keys; submissions = a.submissions.items; outcomes = a.outcomes.items }; kept = map (option_map kept_value) a.kept.items } in
    let now = c.reserve_inputs.new.waiting in
    let same : (k : ℕ) → waiting_at now k ≡ waiting_at a.waiting.items k = λ k. c.reserve_inputs.ensures.tickets k ∙ ap (λ (xs : List Waiting). waiting_at xs k) c.deref_mut.ensures.value in
    let size : length now ≡ length a.waiting.items = omega (arith, c.reserve_inputs.auto.waiting, ap length c.deref_mut.ensures.value) in
    rw (c.reserve_row.ensures.items, c.reserve_row-2.ensures.items, c.reserve_row-3.ensures.items, c.reserve_row-4.ensures.items, take_at now _ a.waiting.len (omega (arith, c.reserve_inputs.auto.waiting, c.deref_mut.ensures.len)))
    (tracked-lists s a.wanted.items a.waiting.items now a.pending c.self.invariant.0 size same, record { submissions = row-more _ _ _ c.self.invariant.1.submissions c.reserve_row.ensures.capacity; outcomes = row-more _ _ _ c.self.invariant.1.outcomes c.reserve_row-2.ensures.capacity; kept = row-more _ _ _ c.self.invariant.1.kept c.reserve_row-3.ensures.capacity; wanted = row-more _ _ _ c.self.invariant.1.wanted c.reserve_row-4.ensures.capacity; waiting = c.self.invariant.1.waiting; names = c.self.invariant.1.names })

pub invariant_of-self-in_err-reserve_row-5 : goal.invariant_of-self-in_err-reserve_row-5
invariant_of-self-in_err-reserve_row-5 c =
    let a = c.self.inside in
    let s : Stored = record { table = record { names = a.names.keys; submissions = a.submissions.items; outcomes = a.outcomes.items }; kept = map (option_map kept_value) a.kept.items } in
    let now = c.reserve_inputs.new.waiting in
    let same : (k : ℕ) → waiting_at now k ≡ waiting_at a.waiting.items k = λ k. c.reserve_inputs.ensures.tickets k ∙ ap (λ (xs : List Waiting). waiting_at xs k) c.deref_mut.ensures.value in
    let size : length now ≡ length a.waiting.items = omega (arith, c.reserve_inputs.auto.waiting, ap length c.deref_mut.ensures.value) in
    rw (c.reserve_row.ensures.items, c.reserve_row-2.ensures.items, c.reserve_row-3.ensures.items, c.reserve_row-4.ensures.items, c.reserve_row-5.ensures.items, take_at now _ a.waiting.len (omega (arith, c.reserve_inputs.auto.waiting, c.deref_mut.ensures.len)))
    (tracked-lists s a.wanted.items a.waiting.items now a.pending c.self.invariant.0 size same, record { submissions = row-more _ _ _ c.self.invariant.1.submissions c.reserve_row.ensures.capacity; outcomes = row-more _ _ _ c.self.invariant.1.outcomes c.reserve_row-2.ensures.capacity; kept = row-more _ _ _ c.self.invariant.1.kept c.reserve_row-3.ensures.capacity; wanted = row-more _ _ _ c.self.invariant.1.wanted c.reserve_row-4.ensures.capacity; waiting = row-more _ _ _ c.self.invariant.1.waiting c.reserve_row-5.ensures.capacity; names = c.self.invariant.1.names })

pub invariant_of-self-in_err-reserve_name : goal.invariant_of-self-in_err-reserve_name
invariant_of-self-in_err-reserve_name c =
    let a = c.self.inside in
    let s : Stored = record { table = record { names = a.names.keys; submissions = a.submissions.items; outcomes = a.outcomes.items }; kept = map (option_map kept_value) a.kept.items } in
    let now = c.reserve_inputs.new.waiting in
    let same : (k : ℕ) → waiting_at now k ≡ waiting_at a.waiting.items k = λ k. c.reserve_inputs.ensures.tickets k ∙ ap (λ (xs : List Waiting). waiting_at xs k) c.deref_mut.ensures.value in
    let size : length now ≡ length a.waiting.items = omega (arith, c.reserve_inputs.auto.waiting, ap length c.deref_mut.ensures.value) in
    rw (c.reserve_name.ensures.keys, c.reserve_row.ensures.items, c.reserve_row-2.ensures.items, c.reserve_row-3.ensures.items, c.reserve_row-4.ensures.items, c.reserve_row-5.ensures.items, take_at now _ a.waiting.len (omega (arith, c.reserve_inputs.auto.waiting, c.deref_mut.ensures.len)))
    (tracked-lists s a.wanted.items a.waiting.items now a.pending c.self.invariant.0 size same, record { submissions = row-more _ _ _ c.self.invariant.1.submissions c.reserve_row.ensures.capacity; outcomes = row-more _ _ _ c.self.invariant.1.outcomes c.reserve_row-2.ensures.capacity; kept = row-more _ _ _ c.self.invariant.1.kept c.reserve_row-3.ensures.capacity; wanted = row-more _ _ _ c.self.invariant.1.wanted c.reserve_row-4.ensures.capacity; waiting = row-more _ _ _ c.self.invariant.1.waiting c.reserve_row-5.ensures.capacity; names = omega (arith, c.self.invariant.1.names, ap (λ (l : List _). length l) c.reserve_name.ensures.keys, c.reserve_name.ensures.spare) })

pub raise_inputs-requires-clause-small : goal.raise_inputs-requires-clause-small
raise_inputs-requires-clause-small c = λ k.
    let a = c.self.inside in
    let here : c.deref_mut-2.result.now ≡ a.wanted.items ++ 0 ∷ [] = c.deref_mut-2.ensures.value ∙ c.push_reserved-4.ensures.items ∙ ap (λ (xs : List ℕ). xs ++ 0 ∷ []) c.reserve_row-4.ensures.items in
    rw here (omega (arith, zero-behind a.wanted.items k, c.self.invariant.0.wanted k, wanted-small a.submissions.items a.outcomes.items k, c.self.invariant.0.whole.outcomes, c.self.invariant.0.whole.small))

pub invariant_of-self-2 : goal.invariant_of-self-2
unfolding ticket_of
invariant_of-self-2 c =
    let a = c.self.inside in
    let v = c.self.view_is in
    let s : Stored = record { table = record { names = a.names.keys; submissions = a.submissions.items; outcomes = a.outcomes.items }; kept = map (option_map kept_value) a.kept.items } in
    let free = ap (λ w. ticket_of w.table.names c.args.name) v ∙ c.requires.free in
    let names : c.insert.new.self.keys ≡ a.names.keys ++ c.args.name ∷ [] = c.in-Ok.ensures.keys ∙ added (same_name c.args.name) c.reserve_name.new.names.keys a.names.keys c.args.name c.reserve_name.ensures.keys free in
    let below : AllByRecursion (λ i. i < length a.names.keys) (tickets c.args.submission.inputs)
    = let B : Stored → Type 0 = λ x. AllByRecursion (λ i. i < length x.table.names) (tickets c.args.submission.inputs) in subst B (sym v) c.requires.below in
    let room : length a.names.keys < 65536 = let R : Stored → Type 0 = λ x. length x.table.names < 65536 in subst R (sym v) c.requires.room in
    let living : NoneDead a.outcomes.items (tickets c.args.submission.inputs)
    = let B : Stored → Type 0 = λ x. NoneDead x.table.outcomes (tickets c.args.submission.inputs) in subst B (sym v) c.requires.alive in
    let made = c.reserve_inputs.new.waiting in
    let now = c.raise_inputs.new.wanted in
    let rest = c.push_inputs.new.waiting in
    let waited = c.pending_inputs-waited.result in
    let counts : c.deref_mut-2.result.now ≡ a.wanted.items ++ 0 ∷ [] = c.deref_mut-2.ensures.value ∙ c.push_reserved-4.ensures.items ∙ ap (λ (xs : List ℕ). xs ++ 0 ∷ []) c.reserve_row-4.ensures.items in
    let kept-list = take_at made _ a.waiting.len (omega (arith, c.reserve_inputs.auto.waiting, c.deref_mut.ensures.len)) in
    let lists : c.deref_mut-3.result.now ≡ made ++ c.none.result ∷ [] = c.deref_mut-3.ensures.value ∙ c.push_reserved-5.ensures.items ∙ ap (λ (xs : List Waiting). xs ++ c.none.result ∷ []) (c.reserve_row-5.ensures.items ∙ kept-list) in
    let same : (k : ℕ) → waiting_at made k ≡ waiting_at a.waiting.items k = λ k. c.reserve_inputs.ensures.tickets k ∙ ap (λ (xs : List Waiting). waiting_at xs k) c.deref_mut.ensures.value in
    let made-size : length made ≡ length a.waiting.items = omega (arith, c.reserve_inputs.auto.waiting, ap length c.deref_mut.ensures.value) in
    let tracked = tracked-lists s a.wanted.items a.waiting.items made a.pending c.self.invariant.0 made-size same in
    let raised : (k : ℕ) → slice_index_or now k 0 ≡ slice_index_or (a.wanted.items ++ 0 ∷ []) k 0 + one_if (is_pending c.args.outcome && is_among c.args.submission.inputs k)
    = λ k. rw (c.is_pending.ensures, counts) at (c.raise_inputs.ensures k) in
    let waits : (k : ℕ) → is_among waited k ≡ (is_among c.args.submission.inputs k && is_pending (outcome_at a.outcomes.items k))
    = λ k. rw (c.deref.ensures.value, c.reserve_row-2.ensures.items) at (c.pending_inputs-waited.ensures.value k) in
    let each : (k : ℕ) → waiting_at rest k ≡ waiting_at (made ++ c.none.result ∷ []) k ++ entry_for waited (length a.names.keys) k
    = λ k. rw (lists, c.len-t.ensures.len) at (c.push_inputs.ensures k) in
    let counts-size : length now ≡ length a.wanted.items + 1 = omega (arith, c.raise_inputs.auto.wanted, ap length counts, length-append a.wanted.items (0 ∷ [])) in
    let lists-size : length rest ≡ length made + 1 = omega (arith, c.push_inputs.auto.waiting, ap length lists, length-append made (c.none.result ∷ [])) in
    let whole = tracked.whole in
    let keys = a.names.keys ++ c.args.name ∷ [] in
    let more : length keys ≡ length a.names.keys + 1 = length-append a.names.keys (c.args.name ∷ []) in
    let rows : HasRowOfEach (length keys) c.push_reserved.new.self.cap c.push_reserved-2.new.self.cap c.push_reserved-3.new.self.cap c.push_reserved-4.new.self.cap c.push_reserved-5.new.self.cap (length keys + spare c.insert.new.self) = record { submissions = omega (arith, more, c.in_ok-reserve_row.ensures.row, c.push_reserved.ensures.capacity, whole.submissions, a.submissions.ok.0); outcomes = omega (arith, more, c.in_ok-reserve_row-2.ensures.row, c.push_reserved-2.ensures.capacity, whole.outcomes, a.outcomes.ok.0); kept = omega (arith, more, c.in_ok-reserve_row-3.ensures.row, c.push_reserved-3.ensures.capacity, whole.kept, a.kept.ok.0, length-map a.kept.items (option_map kept_value)); wanted = omega (arith, more, c.in_ok-reserve_row-4.ensures.row, c.push_reserved-4.ensures.capacity, tracked.counted, a.wanted.ok.0); waiting = omega (arith, more, c.in_ok-reserve_row-5.ensures.row, c.push_reserved-5.ensures.capacity, tracked.listed, a.waiting.ok.0); names = omega (arith, more, c.in_ok-reserve_name.ensures.row, c.insert.ensures.spare) } in
    rw (
      names,
      c.push_reserved.ensures.items,
      c.push_reserved-2.ensures.items,
      c.push_reserved-3.ensures.items,
      c.reserve_row.ensures.items,
      c.reserve_row-2.ensures.items,
      c.reserve_row-3.ensures.items,
      map-append (option_map kept_value) a.kept.items (c.args.value ∷ []),
      take_at now _ c.push_reserved-4.new.self.len (omega (arith, c.raise_inputs.auto.wanted, c.deref_mut-2.ensures.len)),
      take_at rest _ c.push_reserved-5.new.self.len (omega (arith, c.push_inputs.auto.waiting, c.deref_mut-3.ensures.len)),
    ) (
      push-tracked s a.wanted.items now made rest a.pending (a.pending + c.one_if_pending.result) c.args.name c.args.submission c.args.outcome (option_map kept_value c.args.value) c.none.result waited
          tracked room below living c.requires.element c.requires.kept c.none.ensures counts-size lists-size raised waits each (ap (λ (n : ℕ). a.pending + n) c.one_if_pending.ensures),
      rows,
    )

pub returns-clause-table : goal.returns-clause-table
unfolding ticket_of
returns-clause-table c =
    let v = c.self.view_is in
    let free = ap (λ w. ticket_of w.table.names c.args.name) c.self.view_is ∙ c.requires.free in
    let names : c.insert.new.self.keys ≡ c.self.inside.names.keys ++ c.args.name ∷ []
    = c.in-Ok.ensures.keys ∙ added (same_name c.args.name) c.reserve_name.new.names.keys c.self.inside.names.keys c.args.name c.reserve_name.ensures.keys free in
    rw (names, c.push_reserved.ensures.items, c.push_reserved-2.ensures.items, c.reserve_row.ensures.items, c.reserve_row-2.ensures.items, ← v) refl

pub returns-in_err-reserve_row-clause-memory : goal.returns-in_err-reserve_row-clause-memory
returns-in_err-reserve_row-clause-memory c =
    let a = c.self.inside in
    let whole = c.self.invariant.0.whole in
    let shown = ap (λ (s : Stored). length s.table.names) c.self.view_is in
    on_err c.from_residual.result (inl (rows-full a.submissions.len (length a.names.keys) (length c.args.self.now.table.names) a.submissions.cap (a.submissions.ok.0 ∙ whole.submissions) shown c.self.invariant.1.submissions c.in_err-reserve_row.ensures.memory))

pub returns-in_err-reserve_row-2-clause-memory : goal.returns-in_err-reserve_row-2-clause-memory
returns-in_err-reserve_row-2-clause-memory c =
    let a = c.self.inside in
    let whole = c.self.invariant.0.whole in
    let shown = ap (λ (s : Stored). length s.table.names) c.self.view_is in
    on_err c.from_residual-in_err-reserve_row-2.result (inl (rows-full a.outcomes.len (length a.names.keys) (length c.args.self.now.table.names) a.outcomes.cap (a.outcomes.ok.0 ∙ whole.outcomes) shown c.self.invariant.1.outcomes c.in_err-reserve_row-2.ensures.memory))

pub returns-in_err-reserve_row-3-clause-memory : goal.returns-in_err-reserve_row-3-clause-memory
returns-in_err-reserve_row-3-clause-memory c =
    let a = c.self.inside in
    let whole = c.self.invariant.0.whole in
    let shown = ap (λ (s : Stored). length s.table.names) c.self.view_is in
    on_err c.from_residual-in_err-reserve_row-3.result (inl (rows-full a.kept.len (length a.names.keys) (length c.args.self.now.table.names) a.kept.cap (a.kept.ok.0 ∙ sym (length-map a.kept.items (option_map kept_value)) ∙ whole.kept) shown c.self.invariant.1.kept c.in_err-reserve_row-3.ensures.memory))

pub returns-in_err-reserve_row-4-clause-memory : goal.returns-in_err-reserve_row-4-clause-memory
returns-in_err-reserve_row-4-clause-memory c =
    let a = c.self.inside in
    let whole = c.self.invariant.0.whole in
    let shown = ap (λ (s : Stored). length s.table.names) c.self.view_is in
    on_err c.from_residual-in_err-reserve_row-4.result (inl (rows-full a.wanted.len (length a.names.keys) (length c.args.self.now.table.names) a.wanted.cap (a.wanted.ok.0 ∙ c.self.invariant.0.counted) shown c.self.invariant.1.wanted c.in_err-reserve_row-4.ensures.memory))

pub returns-in_err-reserve_inputs-clause-memory : goal.returns-in_err-reserve_inputs-clause-memory
returns-in_err-reserve_inputs-clause-memory c =
    let a = c.self.inside in
    let some = c.in_err-reserve_inputs.ensures.memory in
    let waits : is_among c.pending_inputs-waited.result some.0 ≡ (is_among c.args.submission.inputs some.0 && is_pending (outcome_at a.outcomes.items some.0))
    = rw (c.deref.ensures.value, c.reserve_row-2.ensures.items) at (c.pending_inputs-waited.ensures.value some.0) in
    let both = and_parts _ _ (sym waits ∙ some.1) in
    let P : Stored → Type 0 = λ s. is_pending (outcome_at s.table.outcomes some.0) ≡ true in
    on_err c.from_residual-in_err-reserve_inputs.result (inr (some.0, both.0, subst P c.self.view_is both.1))

pub returns-in_err-reserve_row-5-clause-memory : goal.returns-in_err-reserve_row-5-clause-memory
returns-in_err-reserve_row-5-clause-memory c =
    let a = c.self.inside in
    let shown = ap (λ (s : Stored). length s.table.names) c.self.view_is in
    on_err c.from_residual-in_err-reserve_row-5.result (inl (rows-full a.waiting.len (length a.names.keys) (length c.args.self.now.table.names) a.waiting.cap (a.waiting.ok.0 ∙ c.self.invariant.0.listed) shown c.self.invariant.1.waiting c.in_err-reserve_row-5.ensures.memory))

pub returns-in_err-reserve_name-clause-memory : goal.returns-in_err-reserve_name-clause-memory
returns-in_err-reserve_name-clause-memory c =
    let a = c.self.inside in
    let n = length a.names.keys in
    let shown = ap (λ (s : Stored). length s.table.names) c.self.view_is in
    on_err c.from_residual-in_err-reserve_name.result (inl (rows-full n n (length c.args.self.now.table.names) (n + spare a.names) refl shown c.self.invariant.1.names c.in_err-reserve_name.ensures.memory))
