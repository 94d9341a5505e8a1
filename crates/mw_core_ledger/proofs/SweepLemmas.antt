-- One ticket more whose work is dropped or stays.
use Rattle.std.proofs.Common.{◌≡◌, ◌≢◌, ℕ, ◌+◌, ◌<◌, ◌≤◌, Bool, true, false, cond, List, length, get_or, set, Option, Some, None, refl, ap, sym, ◌∙◌, inl, inr, arith, below_more}
use Rattle.std.proofs.lemmas.Bool.{cases_eq}
use Rattle.std.proofs.lemmas.List.{get_or-set_same, get_or-set_other, length-set}
use Rattle.mw_model.specs.Refusals.{Table, is_pending, outcome_at}
use Rattle.mw_core_tasks.specs.mw_core_progress.ProgressView.{ProgressView}
use Rattle.mw_core_ledger.specs.Books.{work_at}
use Rattle.mw_core_ledger.specs.Changes.{KeepsInProgress}

-- below t each place holds what it held where the test passes, and from t on all places do
abbrev pub SweptTo : (ℕ → Bool) → List (Option ProgressView) → List (Option ProgressView) → ℕ → Type 0
SweptTo keeps old now t =
    (length now ≡ length old)
    × ((k : ℕ) → k < t → get_or now k None ≡ cond (keeps k) (get_or old k None) None)
    × ((k : ℕ) → t ≤ k → get_or now k None ≡ get_or old k None)

pub swept-dropped : (keeps : ℕ → Bool) (old now : List (Option ProgressView)) (t : ℕ) → t < length now → keeps t ≡ false → SweptTo keeps old now t → SweptTo keeps old (set now t None) (t + 1)
swept-dropped keeps old now t within out h = (
  length-set now t None ∙ h.0,
  below_more _ _
      (λ k l. let other : k ≢ t = omega arith in get_or-set_other now t k None None other ∙ h.1 k l)
      (rw out (get_or-set_same now t None None within)),
  λ k l. let other : k ≢ t = omega arith in get_or-set_other now t k None None other ∙ h.2 k (omega arith),
)

pub swept-kept : (keeps : ℕ → Bool) (old now : List (Option ProgressView)) (t : ℕ) → keeps t ≡ true → SweptTo keeps old now t → SweptTo keeps old now (t + 1)
swept-kept keeps old now t in_place h = (h.0, below_more _ _ h.1 (rw in_place (h.2 t (omega arith))), λ k l. h.2 k (omega arith))

pub swept-more : (keeps : ℕ → Bool) (old now : List (Option ProgressView)) (t : ℕ) → t < length now → (b : Bool) → keeps t ≡ b → SweptTo keeps old now t
    → SweptTo keeps old (cond b now (set now t None)) (t + 1)
swept-more keeps old now t within true e h = swept-kept keeps old now t e h
swept-more keeps old now t within false e h = swept-dropped keeps old now t within e h

-- the work under one ticket is dropped, where no other has any that is not pending
pub keeps-own : (w : Table) (ws : List (Option ProgressView)) (t : ℕ) → t < length ws → is_pending (outcome_at w.outcomes t) ≡ false
    → ((k : ℕ) (u : ProgressView) → k ≢ t → work_at ws k ≡ Some u → is_pending (outcome_at w.outcomes k) ≡ true) → KeepsInProgress w ws (set ws t None)
keeps-own w ws t within ended others k =
    elim (cases_eq k t) [
      | inl e ↦
          ap (work_at (set ws t None)) e ∙ get_or-set_same ws t None None within
          ∙ sym (ap (λ (b : Bool). cond b (work_at ws k) None) (ap (λ (j : ℕ). is_pending (outcome_at w.outcomes j)) e ∙ ended))
      | inr n ↦ get_or-set_other ws t k None None n ∙ by-some (is_pending (outcome_at w.outcomes k)) (work_at ws k) (λ u h. others k u n h)
    ]
  where
    by-some : (b : Bool) (o : Option ProgressView) → ((u : ProgressView) → o ≡ Some u → b ≡ true) → o ≡ cond b o None
    by-some true o f = refl
    by-some false None f = refl
    by-some false (Some u) f = absurd (let pends = f u refl in cc)
