-- Elements stay kept, as entries come and end.
use Rattle.std.proofs.Common.{◌≡◌, ℕ, ◌+◌, ◌<◌, ◌⊎◌, inl, inr, Bool, true, false, List, [], ◌∷◌, ◌++◌, length, set, Option, None, refl, sym, ap, subst, ◌∙◌, arith}
use Rattle.std.specs.Prelude.{◌&&◌, not, if◌then◌else◌}
use Rattle.std.proofs.lemmas.Bool.{cases_lt}
use Rattle.std.proofs.lemmas.Bool.Decides.{eqb_tells}
use Rattle.std.proofs.lemmas.List.{get_or-set_same, get_or-set_other, get_or_append_left}
use Rattle.std.proofs.Math.Seq.{get_or-append_seam}
use Rattle.mw_model.specs.declared.submissions.Submission.{Submission}
use Rattle.mw_model.specs.declared.calls.Outcome.{Outcome}
use Rattle.mw_model.specs.declared.calls.Outcome.TheVariants as outcome
use Rattle.mw_model.specs.Values.{Value, value_at}
use Rattle.mw_model.specs.Refusals.{Table, is_pending, is_released, no_submission, outcome_at, submission_at}
use Rattle.mw_model.specs.Stands.{is_wanted}
use Rattle.mw_store.specs.Stored.{DropsSpent, IsKeptElement, KeepsElement}

-- of the first n entries
abbrev pub KeepsFirst : List Submission → List Outcome → List (Option Value) → ℕ → Type 0
KeepsFirst es os kept n = (t : ℕ) → t < n → KeepsElement (submission_at es t) (outcome_at os t) (value_at kept t)

-- what ended before stays as it was, or is released
abbrev pub EndsOnce : List Outcome → List Outcome → Type 0
EndsOnce os new = (t : ℕ) → is_pending (outcome_at os t) ≡ false → (outcome_at new t ≡ outcome_at os t) ⊎ (outcome_at new t ≡ outcome.Released)

not-spent : (b c : Bool) (v : Option Value) → b ≡ false → (if b && c then None else v) ≡ v
not-spent true c v e = absurd cc
not-spent false c v e = refl

-- outcomes change, and what is spent is dropped
pub elements-stay : (w : Table) (new : List Outcome) (old kept : List (Option Value)) (n : ℕ) → EndsOnce w.outcomes new
    → DropsSpent (record { names = w.names; submissions = w.submissions; outcomes = new }) old kept → KeepsFirst w.submissions w.outcomes old n → KeepsFirst w.submissions new kept n
elements-stay w new old kept n ends drops keeps = λ t lt is.
    let was = keeps t lt is in
    let v : Table = record { names = w.names; submissions = w.submissions; outcomes = new } in
    elim (ends t was.0) [
      | inl same ↦ (
        ap is_pending same ∙ was.0,
        λ held.
            let P : Option Value → Type 0 = λ x. IsKeptElement x (submission_at w.submissions t).shape in
            subst P (sym (drops t ∙ not-spent (is_released (outcome_at new t)) (not (is_wanted v t)) (value_at old t) held)) (was.1 (sym (ap is_released same) ∙ held)),
      )
      | inr gone ↦ (ap is_pending gone, λ held. absurd (let yes : is_released (outcome_at new t) ≡ true = ap is_released gone in cc (yes, held)))
    ]

-- a pending entry ends
pub ends-pending : (os : List Outcome) (t : ℕ) (o : Outcome) → outcome_at os t ≡ outcome.Pending → EndsOnce os (set os t o)
ends-pending os t o was = λ u ended.
    elim (eqb_tells u t) [
      | inl here ↦ absurd (let lasts : is_pending (outcome_at os u) ≡ true = ap is_pending (ap (outcome_at os) here.1 ∙ was) in cc (lasts, ended))
      | inr there ↦ inl (get_or-set_other os t u o outcome.Pending there.1)
    ]

-- an entry is released
pub ends-released : (os : List Outcome) (t : ℕ) → t < length os → EndsOnce os (set os t outcome.Released)
ends-released os t lt = λ u ended.
    elim (eqb_tells u t) [
      | inl here ↦ inr (ap (outcome_at (set os t outcome.Released)) here.1 ∙ get_or-set_same os t outcome.Released outcome.Pending lt)
      | inr there ↦ inl (get_or-set_other os t u outcome.Released outcome.Pending there.1)
    ]

-- a value comes to a pending entry
pub elements-valued : (es : List Submission) (os : List Outcome) (kept : List (Option Value)) (t n : ℕ) (v : Option Value) → outcome_at os t ≡ outcome.Pending → KeepsFirst es os kept n → KeepsFirst es os (set kept t v) n
elements-valued es os kept t n v was keeps = λ u lt is.
    let at = keeps u lt is in (
      at.0,
      λ held.
          elim (eqb_tells u t) [
            | inl here ↦ absurd (let lasts : is_pending (outcome_at os u) ≡ true = ap is_pending (ap (outcome_at os) here.1 ∙ was) in cc (lasts, at.0))
            | inr there ↦ (let P : Option Value → Type 0 = λ x. IsKeptElement x (submission_at es u).shape in subst P (sym (get_or-set_other kept t u v None there.1)) (at.1 held))
          ],
    )

-- one entry more
pub elements-push : (es : List Submission) (os : List Outcome) (kept : List (Option Value)) (e : Submission) (o : Outcome) (v : Option Value) (n : ℕ) → length es ≡ n → length os ≡ n → length kept ≡ n
    → KeepsElement e o v → KeepsFirst es os kept n → KeepsFirst (es ++ e ∷ []) (os ++ o ∷ []) (kept ++ v ∷ []) (n + 1)
elements-push es os kept e o v n el ol kl own keeps = λ t lt.
    elim (cases_lt t n) [
      | inl less ↦
          let a = get_or_append_left es (e ∷ []) no_submission t (omega (arith, less, el)) in
          let b = get_or_append_left os (o ∷ []) outcome.Pending t (omega (arith, less, ol)) in
          let c = get_or_append_left kept (v ∷ []) None t (omega (arith, less, kl)) in
          moved _ _ _ _ _ _ (sym a) (sym b) (sym c) (keeps t less)
      | inr past ↦
          let last : t ≡ n = omega (arith, past, lt) in
          let a : submission_at (es ++ e ∷ []) t ≡ e = ap (submission_at (es ++ e ∷ [])) (last ∙ sym el) ∙ get_or-append_seam es e [] no_submission in
          let b : outcome_at (os ++ o ∷ []) t ≡ o = ap (outcome_at (os ++ o ∷ [])) (last ∙ sym ol) ∙ get_or-append_seam os o [] outcome.Pending in
          let c : value_at (kept ++ v ∷ []) t ≡ v = ap (value_at (kept ++ v ∷ [])) (last ∙ sym kl) ∙ get_or-append_seam kept v [] None in
          moved e _ o _ v _ (sym a) (sym b) (sym c) own
    ]
  where
    moved : (e f : Submission) (o p : Outcome) (v u : Option Value) → e ≡ f → o ≡ p → v ≡ u → KeepsElement e o v → KeepsElement f p u
    moved e f o p v u x y z k =
        let A : Submission → Type 0 = λ q. KeepsElement q p u in
        let B : Outcome → Type 0 = λ q. KeepsElement e q u in
        let C : Option Value → Type 0 = λ q. KeepsElement e o q in
        subst A x (subst B y (subst C z k))
