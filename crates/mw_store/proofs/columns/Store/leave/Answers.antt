use Rattle.std.proofs.Common.{◌≡◌, ◌∙◌, ◌&&◌, ◌+◌, ℕ, ◌<◌, if◌then◌else◌, Bool, true, false, nat_eq, List, length, map, set, get_or, slice_index_or, None, ◌⊎◌, option_map, ap, sym, subst, arith}
use Rattle.std.specs.List.{AllByRecursion, list_any}
use Rattle.std.proofs.lemmas.List.{length-map, get_or_read, length-set, take_at}
use Rattle.mw_model.specs.declared.calls.Outcome.TheVariants as outcome
use Rattle.mw_model.specs.Values.{value_at}
use Rattle.mw_model.specs.Refusals.{Table, is_dead, is_pending, no_submission, outcome_at, submission_at}
use Rattle.mw_model.specs.Stands.{inputs_of, is_wanted}
use Rattle.mw_store.specs.Kept.{kept_value}
use Rattle.mw_store.specs.Stored.{Stored}
use Rattle.mw_store.specs.Waiting.{Waiting, no_waiting, waiting_at}
use Rattle.mw_store.specs.Wanted.{is_among, one_if, spent_by, wanted_by}
use Rattle.mw_store.proofs.Living.{dies-alone}
use Rattle.mw_store.proofs.Tracking.{kept-dropped, read-within, counted-before, settled-list, leave-drops, leave-tracked, nobody-dead, nobody-waits}
use Rattle.mw_store.proofs.columns.Store.leave.Goals as goal

-- the list that is read at a ticket, and handed out
list-handed : (lists : List Waiting) (t : ℕ) (read taken : Waiting) (waiters : List ℕ) → t < length lists → read ≡ get_or lists t read → taken ≡ read → waiters ≡ taken.tickets → waiters ≡ waiting_at lists t
list-handed lists t read taken waiters within is same shown = shown ∙ ap (λ (w : Waiting). w.tickets) (same ∙ get_or_read lists t read within is no_waiting)

pub lower_inputs-requires-clause-a : goal.lower_inputs-requires-clause-a
lower_inputs-requires-clause-a c =
    let a = c.self.inside in
    let named : c.args.t < length a.names.keys = let R : Stored → Type 0 = λ s. c.args.t < length s.table.names in subst R (sym c.self.view_is) c.requires.within in
    (read-within a.submissions.items c.args.t (length c.deref_mut.result.now) c.index.result.now c.self.invariant.0.whole.inputs
    (omega (arith, named, c.self.invariant.0.whole.submissions)) c.index.ensures (omega (arith, named, c.deref_mut.ensures.len, c.self.invariant.0.counted))).a

pub lower_inputs-requires-clause-b : goal.lower_inputs-requires-clause-b
lower_inputs-requires-clause-b c =
    let a = c.self.inside in
    let named : c.args.t < length a.names.keys = let R : Stored → Type 0 = λ s. c.args.t < length s.table.names in subst R (sym c.self.view_is) c.requires.within in
    (read-within a.submissions.items c.args.t (length c.deref_mut.result.now) c.index.result.now c.self.invariant.0.whole.inputs
    (omega (arith, named, c.self.invariant.0.whole.submissions)) c.index.ensures (omega (arith, named, c.deref_mut.ensures.len, c.self.invariant.0.counted))).b

pub lower_inputs-requires-clause-c : goal.lower_inputs-requires-clause-c
lower_inputs-requires-clause-c c =
    let a = c.self.inside in
    let named : c.args.t < length a.names.keys = let R : Stored → Type 0 = λ s. c.args.t < length s.table.names in subst R (sym c.self.view_is) c.requires.within in
    (read-within a.submissions.items c.args.t (length c.deref_mut.result.now) c.index.result.now c.self.invariant.0.whole.inputs
    (omega (arith, named, c.self.invariant.0.whole.submissions)) c.index.ensures (omega (arith, named, c.deref_mut.ensures.len, c.self.invariant.0.counted))).c

pub drop_inputs-requires-clause-a : goal.drop_inputs-requires-clause-a
drop_inputs-requires-clause-a c =
    let a = c.self.inside in
    let named : c.args.t < length a.names.keys = let R : Stored → Type 0 = λ s. c.args.t < length s.table.names in subst R (sym c.self.view_is) c.requires.within in
    (read-within a.submissions.items c.args.t (length c.deref.result.now) c.index.result.now c.self.invariant.0.whole.inputs
    (omega (arith, named, c.self.invariant.0.whole.submissions)) c.index.ensures
    (omega (arith, named, ap length c.deref.ensures.value, length-set a.outcomes.items c.args.t c.args.outcome, c.self.invariant.0.whole.outcomes))).a

pub drop_inputs-requires-clause-b : goal.drop_inputs-requires-clause-b
drop_inputs-requires-clause-b c =
    let a = c.self.inside in
    let named : c.args.t < length a.names.keys = let R : Stored → Type 0 = λ s. c.args.t < length s.table.names in subst R (sym c.self.view_is) c.requires.within in
    (read-within a.submissions.items c.args.t (length c.deref.result.now) c.index.result.now c.self.invariant.0.whole.inputs
    (omega (arith, named, c.self.invariant.0.whole.submissions)) c.index.ensures
    (omega (arith, named, ap length c.deref.ensures.value, length-set a.outcomes.items c.args.t c.args.outcome, c.self.invariant.0.whole.outcomes))).b

pub drop_inputs-requires-clause-c : goal.drop_inputs-requires-clause-c
drop_inputs-requires-clause-c c =
    let a = c.self.inside in
    let named : c.args.t < length a.names.keys = let R : Stored → Type 0 = λ s. c.args.t < length s.table.names in subst R (sym c.self.view_is) c.requires.within in
    (read-within a.submissions.items c.args.t (length c.deref.result.now) c.index.result.now c.self.invariant.0.whole.inputs
    (omega (arith, named, c.self.invariant.0.whole.submissions)) c.index.ensures
    (omega (arith, named, ap length c.deref.ensures.value, length-set a.outcomes.items c.args.t c.args.outcome, c.self.invariant.0.whole.outcomes))).c

pub lower_inputs-requires-clause-counted : goal.lower_inputs-requires-clause-counted
lower_inputs-requires-clause-counted c = λ k.
    let a = c.self.inside in
    let w : Table = record { names = a.names.keys; submissions = a.submissions.items; outcomes = a.outcomes.items } in
    let s : Stored = record { table = w; kept = map (option_map kept_value) a.kept.items } in
    let t = c.args.t in
    let named : t < length a.names.keys = let R : Stored → Type 0 = λ s. t < length s.table.names in subst R (sym c.self.view_is) c.requires.within in
    let was : outcome_at a.outcomes.items t ≡ outcome.Pending = let R : Stored → Type 0 = λ s. outcome_at s.table.outcomes t ≡ outcome.Pending in subst R (sym c.self.view_is) c.requires.pending in
    let read : c.index.result.now ≡ submission_at a.submissions.items t = get_or_read a.submissions.items t c.index.result.now (omega (arith, named, c.self.invariant.0.whole.submissions)) c.index.ensures no_submission in
    rw (read, c.deref_mut.ensures.value) (counted-before s a.wanted.items a.waiting.items a.pending t k c.self.invariant.0 named was)

pub invariant_of-self : goal.invariant_of-self
invariant_of-self c =
    let a = c.self.inside in
    let w : Table = record { names = a.names.keys; submissions = a.submissions.items; outcomes = a.outcomes.items } in
    let s : Stored = record { table = w; kept = map (option_map kept_value) a.kept.items } in
    let t = c.args.t in
    let o = c.args.outcome in
    let inv = c.self.invariant.0 in
    let named : t < length a.names.keys = let R : Stored → Type 0 = λ s. t < length s.table.names in subst R (sym c.self.view_is) c.requires.within in
    let was : outcome_at a.outcomes.items t ≡ outcome.Pending = let R : Stored → Type 0 = λ s. outcome_at s.table.outcomes t ≡ outcome.Pending in subst R (sym c.self.view_is) c.requires.pending in
    let why : (is_dead o ≡ false) ⊎ (wanted_by w.submissions w.outcomes t ≡ 0) = nobody-dead w t o inv.whole.outcomes (let R : Stored → Type 0 = λ s. (is_dead o ≡ false) ⊎ (is_wanted s.table t ≡ false) in subst R (sym c.self.view_is) c.requires.alone) in
    let read : c.index.result.now ≡ submission_at a.submissions.items t = get_or_read a.submissions.items t c.index.result.now (omega (arith, named, inv.whole.submissions)) c.index.ensures no_submission in
    let now = c.lower_inputs.new.wanted in
    let new = c.drop_inputs.new.kept in
    let left = c.replace-list.new.dest in
    let rest = set a.waiting.items t left in
    let lowered : (k : ℕ) → slice_index_or now k 0 + one_if (is_among (submission_at a.submissions.items t).inputs k) ≡ slice_index_or a.wanted.items k 0
    = λ k. rw (read, c.deref_mut.ensures.value) at (c.lower_inputs.ensures k) in
    let counts : c.deref-2.result.now ≡ now = c.deref-2.ensures.value ∙ take_at now _ a.wanted.len (omega arith) in
    let near : ℕ → Bool = λ k. is_among (submission_at a.submissions.items t).inputs k && spent_by (set a.outcomes.items t o) now k in
    let dropped : (k : ℕ) → value_at (map (option_map kept_value) new) k ≡ (if near k then None else value_at s.kept k)
    = λ k. kept-dropped a.kept.items new k (near k) (rw (read, c.deref.ensures.value, counts, c.deref_mut-2.ensures.value) at (c.drop_inputs.ensures k)) in
    let counts-size : length now ≡ length a.wanted.items = omega (arith, c.lower_inputs.auto.wanted, c.deref_mut.ensures.len) in
    let kept-size : length (map (option_map kept_value) new) ≡ length s.kept
    = omega (arith, length-map new (option_map kept_value), length-map a.kept.items (option_map kept_value), c.drop_inputs.auto.kept, ap length c.deref_mut-2.ensures.value) in
    rw (take_at new _ a.kept.len (omega arith), take_at now _ a.wanted.len (omega arith)) (
      (leave-tracked s a.wanted.items now a.waiting.items rest a.pending t o (map (option_map kept_value) new) inv named was c.requires.ended why counts-size
          (length-set a.waiting.items t left) kept-size lowered
          (settled-list a.waiting.items t left (omega (arith, named, inv.listed)) (ap (λ (w : Waiting). w.tickets) c.replace-list.ensures.after ∙ c.none.ensures))
          (leave-drops s a.wanted.items now a.waiting.items a.pending t o (map (option_map kept_value) new) inv named was c.requires.ended c.requires.held lowered dropped)),
      c.self.invariant.1,
    )

pub returns-clause-killed : goal.returns-clause-killed
returns-clause-killed c = λ alone.
    let a = c.self.inside in
    let w : Table = record { names = a.names.keys; submissions = a.submissions.items; outcomes = a.outcomes.items } in
    let t = c.args.t in
    let whole = c.self.invariant.0.whole in
    let named : t < length a.names.keys = let R : Stored → Type 0 = λ s. t < length s.table.names in subst R (sym c.self.view_is) c.requires.within in
    let nobody = nobody-waits w t whole.outcomes (let R : Stored → Type 0 = λ s. is_wanted s.table t ≡ false in subst R (sym c.self.view_is) alone) in
    rw (← c.self.view_is)
    (sym (dies-alone w t c.args.outcome (whole.submissions ∙ sym whole.outcomes) whole.outcomes whole.inputs (omega (arith, named, whole.outcomes)) c.requires.ended nobody c.self.invariant.0.alive))

pub returns-clause-kept : goal.returns-clause-kept
returns-clause-kept c = λ j.
    let a = c.self.inside in
    let w : Table = record { names = a.names.keys; submissions = a.submissions.items; outcomes = a.outcomes.items } in
    let s : Stored = record { table = w; kept = map (option_map kept_value) a.kept.items } in
    let t = c.args.t in
    let o = c.args.outcome in
    let named : t < length a.names.keys = let R : Stored → Type 0 = λ s. t < length s.table.names in subst R (sym c.self.view_is) c.requires.within in
    let was : outcome_at a.outcomes.items t ≡ outcome.Pending = let R : Stored → Type 0 = λ s. outcome_at s.table.outcomes t ≡ outcome.Pending in subst R (sym c.self.view_is) c.requires.pending in
    let read : c.index.result.now ≡ submission_at a.submissions.items t = get_or_read a.submissions.items t c.index.result.now (omega (arith, named, c.self.invariant.0.whole.submissions)) c.index.ensures no_submission in
    let now = c.lower_inputs.new.wanted in
    let new = c.drop_inputs.new.kept in
    let lowered : (k : ℕ) → slice_index_or now k 0 + one_if (is_among (submission_at a.submissions.items t).inputs k) ≡ slice_index_or a.wanted.items k 0
    = λ k. rw (read, c.deref_mut.ensures.value) at (c.lower_inputs.ensures k) in
    let counts : c.deref-2.result.now ≡ now = c.deref-2.ensures.value ∙ take_at now _ a.wanted.len (omega arith) in
    let near : ℕ → Bool = λ k. is_among (submission_at a.submissions.items t).inputs k && spent_by (set a.outcomes.items t o) now k in
    let dropped : (k : ℕ) → value_at (map (option_map kept_value) new) k ≡ (if near k then None else value_at s.kept k)
    = λ k. kept-dropped a.kept.items new k (near k) (rw (read, c.deref.ensures.value, counts, c.deref_mut-2.ensures.value) at (c.drop_inputs.ensures k)) in
    rw (take_at new _ a.kept.len (omega arith), ← c.self.view_is)
    (leave-drops s a.wanted.items now a.waiting.items a.pending t o (map (option_map kept_value) new) c.self.invariant.0 named was c.requires.ended c.requires.held lowered dropped j)

pub returns-clause-all : goal.returns-clause-all
returns-clause-all c =
    let a = c.self.inside in
    let t = c.args.t in
    let named : t < length a.names.keys = let R : Stored → Type 0 = λ s. t < length s.table.names in subst R (sym c.self.view_is) c.requires.within in
    let was : outcome_at a.outcomes.items t ≡ outcome.Pending = let R : Stored → Type 0 = λ s. outcome_at s.table.outcomes t ≡ outcome.Pending in subst R (sym c.self.view_is) c.requires.pending in
    let here : c.into_waiters.result ≡ waiting_at a.waiting.items t
    = list-handed a.waiting.items t c.index_mut-2.result.now c.replace-list.result c.into_waiters.result (omega (arith, named, c.self.invariant.0.listed)) c.index_mut-2.ensures.value c.replace-list.ensures.value c.into_waiters.ensures in
    let whole = c.self.invariant.0.whole.outcomes in
    let R : Stored → Type 0 = λ s. (u : ℕ) → u < length s.table.names → (is_pending (outcome_at s.table.outcomes u) && list_any (nat_eq t) (inputs_of s.table u)) ≡ true → list_any (nat_eq u) c.into_waiters.result ≡ true in
    subst R c.self.view_is
    (λ u lt waits. ap (list_any (nat_eq u)) here ∙ c.self.invariant.0.waiting.all t u (omega (arith, named, whole)) (ap is_pending was) (omega (arith, lt, whole)) waits)

pub returns-clause-below : goal.returns-clause-below
returns-clause-below c =
    let a = c.self.inside in
    let t = c.args.t in
    let named : t < length a.names.keys = let R : Stored → Type 0 = λ s. t < length s.table.names in subst R (sym c.self.view_is) c.requires.within in
    let here : c.into_waiters.result ≡ waiting_at a.waiting.items t
    = list-handed a.waiting.items t c.index_mut-2.result.now c.replace-list.result c.into_waiters.result (omega (arith, named, c.self.invariant.0.listed)) c.index_mut-2.ensures.value c.replace-list.ensures.value c.into_waiters.ensures in
    let names : length a.outcomes.items ≡ length c.args.self.now.table.names = c.self.invariant.0.whole.outcomes ∙ ap (λ (s : Stored). length s.table.names) c.self.view_is in
    let P : List ℕ → Type 0 = λ us. AllByRecursion (λ u. u < length c.args.self.now.table.names) us in
    subst P (sym here) (subst (λ (n : ℕ). AllByRecursion (λ u. u < n) (waiting_at a.waiting.items t)) names (c.self.invariant.0.waiting.below t))
