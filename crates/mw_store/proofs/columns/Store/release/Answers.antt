use Rattle.std.proofs.Common.{◌≡◌, ◌&&◌, ℕ, ◌<◌, length, map, set, Some, option_map, sym, subst, arith}
use Rattle.std.proofs.lemmas.List.{length-map, take_at}
use Rattle.mw_model.specs.declared.calls.Outcome.TheVariants as outcome
use Rattle.mw_model.specs.Refusals.{Table, outcome_at}
use Rattle.mw_store.specs.Kept.{kept_value}
use Rattle.mw_store.specs.Stored.{Stored}
use Rattle.mw_store.specs.Wanted.{is_at, spent_by}
use Rattle.mw_store.proofs.Tracking.{kept-dropped, release-drops, release-tracked}
use Rattle.mw_store.proofs.columns.Store.release.Goals as goal

pub invariant_of-self : goal.invariant_of-self
invariant_of-self c =
    let a = c.self.inside in
    let w : Table = record { names = a.names.keys; submissions = a.submissions.items; outcomes = a.outcomes.items } in
    let s : Stored = record { table = w; kept = map (option_map kept_value) a.kept.items } in
    let t = c.args.t in
    let within : t < length a.names.keys = let R : Stored → Type 0 = λ s. t < length s.table.names in subst R (sym c.self.view_is) c.requires.within in
    let was : outcome_at a.outcomes.items t ≡ outcome.Done = let R : Stored → Type 0 = λ s. outcome_at s.table.outcomes t ≡ outcome.Done in subst R (sym c.self.view_is) c.requires.done in
    let new = c.drop_one.new.kept in
    let spent : ℕ → _ = λ k. is_at (Some t) k && spent_by (set a.outcomes.items t outcome.Released) a.wanted.items k in
    let dropped = λ (k : ℕ). kept-dropped a.kept.items new k (spent k) (rw (c.deref.ensures.value, c.deref-2.ensures.value, c.deref_mut.ensures.value) at (c.drop_one.ensures k)) in
    let size : length (map (option_map kept_value) new) ≡ length s.kept = omega (arith, length-map new (option_map kept_value), length-map a.kept.items (option_map kept_value), c.drop_one.auto.kept, c.deref_mut.ensures.len) in
    rw (take_at new _ a.kept.len (omega arith)) (
      (release-tracked s a.wanted.items a.waiting.items a.pending t (map (option_map kept_value) new) c.self.invariant.0 within was size
          (release-drops s a.wanted.items a.waiting.items a.pending t (map (option_map kept_value) new) c.self.invariant.0 within was dropped)),
      c.self.invariant.1,
    )

pub returns-clause-kept : goal.returns-clause-kept
returns-clause-kept c = λ k.
    let a = c.self.inside in
    let w : Table = record { names = a.names.keys; submissions = a.submissions.items; outcomes = a.outcomes.items } in
    let s : Stored = record { table = w; kept = map (option_map kept_value) a.kept.items } in
    let t = c.args.t in
    let within : t < length a.names.keys = let R : Stored → Type 0 = λ s. t < length s.table.names in subst R (sym c.self.view_is) c.requires.within in
    let was : outcome_at a.outcomes.items t ≡ outcome.Done = let R : Stored → Type 0 = λ s. outcome_at s.table.outcomes t ≡ outcome.Done in subst R (sym c.self.view_is) c.requires.done in
    let new = c.drop_one.new.kept in
    let spent : ℕ → _ = λ j. is_at (Some t) j && spent_by (set a.outcomes.items t outcome.Released) a.wanted.items j in
    let dropped = λ (j : ℕ). kept-dropped a.kept.items new j (spent j) (rw (c.deref.ensures.value, c.deref-2.ensures.value, c.deref_mut.ensures.value) at (c.drop_one.ensures j)) in
    rw (take_at new _ a.kept.len (omega arith), ← c.self.view_is)
    (release-drops s a.wanted.items a.waiting.items a.pending t (map (option_map kept_value) new) c.self.invariant.0 within was dropped k)
