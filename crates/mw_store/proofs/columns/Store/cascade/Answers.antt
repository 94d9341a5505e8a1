use Rattle.std.proofs.Common.{◌≡◌, ◌∙◌, ℕ, ◌<◌, if◌then◌else◌, false, [], length, map, drop, set, slice_index_or, count_by, None, option_map, refl, ap, sym, arith, subst}
use Rattle.std.proofs.lemmas.List.{length-map, length-set, take_at}
use Rattle.std.proofs.lemmas.List.Sums.{sum_by-set}
use Rattle.mw_model.specs.declared.calls.Outcome.{Outcome}
use Rattle.mw_model.specs.declared.calls.Outcome.TheVariants as outcome
use Rattle.mw_model.specs.Values.{value_at}
use Rattle.mw_model.specs.Refusals.{Table, is_pending, outcome_at}
use Rattle.mw_model.specs.Machine.{killed, cascaded}
use Rattle.mw_model.specs.Stands.{is_wanted}
use Rattle.mw_store.specs.Kept.{kept_value}
use Rattle.mw_store.specs.Stored.{Stored}
use Rattle.mw_store.specs.Waiting.{waiting_at}
use Rattle.mw_store.specs.Wanted.{one_if, spent_by, wanted_by}
use Rattle.mw_store.proofs.CascadeLemmas.{count-cascaded}
use Rattle.mw_store.proofs.Living.{dies-alone}
use Rattle.mw_store.proofs.Tracking.{kept-dropped, kill-drops, kill-tracked, nobody-waits}
use Rattle.mw_store.proofs.columns.Store.cascade.Goals as goal

pub returns-clause-table : goal.returns-clause-table
unfolding killed
returns-clause-table c =
    let a = c.fail_dependents.ensures in
    let b = c.deref.ensures.value in
    let d = c.deref_mut.ensures.value in
    let l = c.deref_mut.ensures.len in
    let m = c.fail_dependents.auto.outcomes in
    rw (take_at c.fail_dependents.new.outcomes _ c.self.inside.outcomes.len (omega arith), a, b, d, ← c.self.view_is) refl

pub returns-clause-alone : goal.returns-clause-alone
unfolding killed
returns-clause-alone c = λ alone.
    let a = c.self.inside in
    let w : Table = record { names = a.names.keys; submissions = a.submissions.items; outcomes = a.outcomes.items } in
    let t = c.args.t in
    let whole = c.self.invariant.0.whole in
    let named : t < length a.names.keys = let R : Stored → Type 0 = λ s. t < length s.table.names in subst R (sym c.self.view_is) c.requires.within in
    let nobody = nobody-waits w t whole.outcomes (let R : Stored → Type 0 = λ s. is_wanted s.table t ≡ false in subst R (sym c.self.view_is) alone) in
    let l = c.deref_mut.ensures.len in
    let m = c.fail_dependents.auto.outcomes in
    rw (take_at c.fail_dependents.new.outcomes _ a.outcomes.len (omega arith), c.fail_dependents.ensures, c.deref.ensures.value, c.deref_mut.ensures.value, ← c.self.view_is)
    (dies-alone w t c.args.cause (whole.submissions ∙ sym whole.outcomes) whole.outcomes whole.inputs (omega (arith, named, whole.outcomes)) c.requires.dead nobody c.self.invariant.0.alive)

pub invariant_of-self : goal.invariant_of-self
invariant_of-self c =
    let a = c.self.inside in
    let w : Table = record { names = a.names.keys; submissions = a.submissions.items; outcomes = a.outcomes.items } in
    let s : Stored = record { table = w; kept = map (option_map kept_value) a.kept.items } in
    let t = c.args.t in
    let named : t < length a.names.keys = let R : Stored → Type 0 = λ s. t < length s.table.names in subst R (sym c.self.view_is) c.requires.within in
    let was : outcome_at a.outcomes.items t ≡ outcome.Pending = let R : Stored → Type 0 = λ s. outcome_at s.table.outcomes t ≡ outcome.Pending in subst R (sym c.self.view_is) c.requires.pending in
    let os = c.fail_dependents.new.outcomes in
    let now = c.count_wanted.new.wanted in
    let rest = c.drop_settled.new.waiting in
    let new = c.drop_spent.new.kept in
    let is : os ≡ cascaded [] a.submissions.items (set a.outcomes.items t c.args.cause) = rw (c.deref.ensures.value, c.deref_mut.ensures.value) at c.fail_dependents.ensures in
    let size : length os ≡ length a.outcomes.items = omega (arith, c.fail_dependents.auto.outcomes, ap length c.deref_mut.ensures.value, length-set a.outcomes.items t c.args.cause) in
    let shown = take_at os (drop (length os) (set a.outcomes.items t c.args.cause)) a.outcomes.len (omega (arith, c.fail_dependents.auto.outcomes, c.deref_mut.ensures.len)) in
    let counts = take_at now (drop (length now) a.wanted.items) a.wanted.len (omega (arith, c.count_wanted.auto.wanted, c.deref_mut-2.ensures.len)) in
    let counted : (k : ℕ) → slice_index_or now k 0 ≡ wanted_by a.submissions.items os k = λ k. rw (c.deref-3.ensures.value, c.deref-4.ensures.value, shown) at (c.count_wanted.ensures k) in
    let each : (k : ℕ) → waiting_at rest k ≡ (if is_pending (outcome_at os k) then waiting_at a.waiting.items k else [])
    = λ k. rw (c.deref-5.ensures.value, shown, c.deref_mut-3.ensures.value) at (c.drop_settled.ensures k) in
    let count : c.count_pending-self-inside.result ≡ count_by is_pending os = rw (c.deref-2.ensures.value, shown) at c.count_pending-self-inside.ensures in
    let dropped : (k : ℕ) → value_at (map (option_map kept_value) new) k ≡ (if spent_by os now k then None else value_at s.kept k)
    = λ k. kept-dropped a.kept.items new k (spent_by os now k) (rw (c.deref-6.ensures.value, shown, c.deref-7.ensures.value, counts, c.deref_mut-4.ensures.value) at (c.drop_spent.ensures k)) in
    let kept-size : length (map (option_map kept_value) new) ≡ length s.kept
    = omega (arith, length-map new (option_map kept_value), length-map a.kept.items (option_map kept_value), c.drop_spent.auto.kept, ap length c.deref_mut-4.ensures.value) in
    rw (shown, counts, take_at rest _ a.waiting.len (omega (arith, c.drop_settled.auto.waiting, c.deref_mut-3.ensures.len)), take_at new _ a.kept.len (omega (arith, c.drop_spent.auto.kept, c.deref_mut-4.ensures.len))) (
      (kill-tracked s a.wanted.items now a.waiting.items rest a.pending c.count_pending-self-inside.result t c.args.cause os (map (option_map kept_value) new) c.self.invariant.0 named was c.requires.dead is size
          (omega (arith, c.count_wanted.auto.wanted, ap length c.deref_mut-2.ensures.value)) (omega (arith, c.drop_settled.auto.waiting, ap length c.deref_mut-3.ensures.value)) kept-size
          counted each count (kill-drops s os now (map (option_map kept_value) new) (size ∙ c.self.invariant.0.whole.outcomes) counted dropped)),
      c.self.invariant.1,
    )

pub returns-clause-kept : goal.returns-clause-kept
returns-clause-kept c = λ j.
    let a = c.self.inside in
    let w : Table = record { names = a.names.keys; submissions = a.submissions.items; outcomes = a.outcomes.items } in
    let s : Stored = record { table = w; kept = map (option_map kept_value) a.kept.items } in
    let t = c.args.t in
    let os = c.fail_dependents.new.outcomes in
    let now = c.count_wanted.new.wanted in
    let new = c.drop_spent.new.kept in
    let size : length os ≡ length a.outcomes.items = omega (arith, c.fail_dependents.auto.outcomes, ap length c.deref_mut.ensures.value, length-set a.outcomes.items t c.args.cause) in
    let shown = take_at os (drop (length os) (set a.outcomes.items t c.args.cause)) a.outcomes.len (omega (arith, c.fail_dependents.auto.outcomes, c.deref_mut.ensures.len)) in
    let counts = take_at now (drop (length now) a.wanted.items) a.wanted.len (omega (arith, c.count_wanted.auto.wanted, c.deref_mut-2.ensures.len)) in
    let counted : (k : ℕ) → slice_index_or now k 0 ≡ wanted_by a.submissions.items os k = λ k. rw (c.deref-3.ensures.value, c.deref-4.ensures.value, shown) at (c.count_wanted.ensures k) in
    let dropped : (k : ℕ) → value_at (map (option_map kept_value) new) k ≡ (if spent_by os now k then None else value_at s.kept k)
    = λ k. kept-dropped a.kept.items new k (spent_by os now k) (rw (c.deref-6.ensures.value, shown, c.deref-7.ensures.value, counts, c.deref_mut-4.ensures.value) at (c.drop_spent.ensures k)) in
    rw (shown, take_at new _ a.kept.len (omega (arith, c.drop_spent.auto.kept, c.deref_mut-4.ensures.len)), ← c.self.view_is)
    (kill-drops s os now (map (option_map kept_value) new) (size ∙ c.self.invariant.0.whole.outcomes) counted dropped j)

pub returns-clause-pending : goal.returns-clause-pending
returns-clause-pending c =
    let os = c.self.inside.outcomes.items in
    let a = c.fail_dependents.ensures in
    let b = c.deref.ensures.value in
    let d = c.deref_mut.ensures.value in
    let l = c.deref_mut.ensures.len in
    let m = c.fail_dependents.auto.outcomes in
    let v = c.self.view_is in
    let t = c.args.t in
    let named : t < length c.self.inside.names.keys = let R : Stored → Type 0 = λ s. t < length s.table.names in subst R (sym v) c.requires.within in
    let within : t < length os = omega (arith, named, c.self.invariant.0.whole.outcomes) in
    let was : outcome_at os t ≡ outcome.Pending = let W : Stored → Type 0 = λ s. outcome_at s.table.outcomes t ≡ outcome.Pending in subst W (sym v) c.requires.pending in
    rw (take_at c.fail_dependents.new.outcomes _ c.self.inside.outcomes.len (omega arith), a, b, d, ← v)
    (omega (
      arith,
      count-cascaded [] c.self.inside.submissions.items (set os t c.args.cause),
      sum_by-set (λ x. one_if (is_pending x)) os t c.args.cause outcome.Pending within,
      ap (λ (x : Outcome). one_if (is_pending x)) was,
      ap one_if c.requires.dead,
    ))
