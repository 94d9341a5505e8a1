-- An entry that is added: what is found under its name, and that the columns stay whole.
use Rattle.std.proofs.Common.{◌≡◌, ℕ, ◌<◌, ◌≤◌, Bool, false, not, ltb, cond, List, [], ◌∷◌, ◌++◌, length, get_or, Option, None, refl, sym, subst, arith, cond, inl, inr, All}
use Rattle.std.specs.List.{AllByRecursion, position, position_or_len, list_any}
use Rattle.std.proofs.lemmas.List.Folds.{list_any_none}
use Rattle.std.proofs.lemmas.List.Sums.{prefix_len_passes}
use Rattle.std.proofs.lemmas.List.{get_or_append_left, length-append}
use Rattle.std.proofs.Math.Seq.{get_or-append_seam}
use Rattle.std.proofs.lemmas.Bool.{ltb-false, cases_lt, not-true}
use Rattle.mw_model.proofs.mw_facts.Finds.{cond-none}
use Rattle.mw_model.specs.declared.submissions.Submission.{Submission}
use Rattle.mw_model.specs.declared.names.Name.{Name}
use Rattle.mw_model.specs.declared.calls.Outcome.{Outcome}
use Rattle.mw_model.specs.Values.{Value, tickets}
use Rattle.mw_model.specs.Refusals.{submission_at, no_submission}
use Rattle.mw_model.specs.Machine.{with_entry}
use Rattle.mw_store.specs.Stored.{InputsBelow, Stored, StoreIsWhole}

-- where no place is found, no element passes
pub none-passes : {X : Type 0} → (p : X → Bool) (xs : List X) → position p xs ≡ None → All (λ x. p x ≡ false) xs
none-passes p xs h k d within =
    let past : length xs ≤ position_or_len p xs = ltb-false (position_or_len p xs) (length xs) (cond-none (ltb (position_or_len p xs) (length xs)) (position_or_len p xs) h) in
    not-true (p (get_or xs k d)) (prefix_len_passes (λ x. not (p x)) xs k d (omega arith))

-- a name that is not found is added at the end
pub added : {X : Type 0} → (p : X → Bool) (now xs : List X) (x : X) → now ≡ xs → position p xs ≡ None → cond (list_any p now) now (now ++ x ∷ []) ≡ xs ++ x ∷ []
added p now xs x same h = rw (same, list_any_none p xs (none-passes p xs h)) refl

-- one more entry, whose inputs stand before it
pub inputs-push : (es : List Submission) (e : Submission) → InputsBelow es → AllByRecursion (λ i. i < length es) (tickets e.inputs) → InputsBelow (es ++ e ∷ [])
inputs-push es e h own t within =
    let P : Submission → Type 0 = λ x. AllByRecursion (λ i. i < t) (tickets x.inputs) in
    elim (cases_lt t (length es)) [
      | inl lt ↦ subst P (sym (get_or_append_left es (e ∷ []) no_submission t lt)) (h t lt)
      | inr ge ↦
          let last : t ≡ length es = omega (arith, length-append es (e ∷ [])) in
          let Q : ℕ → Type 0 = λ n. AllByRecursion (λ i. i < n) (tickets e.inputs) in
          let here : submission_at (es ++ e ∷ []) t ≡ e = rw last (get_or-append_seam es e [] no_submission) in
          subst P (sym here) (subst Q (sym last) own)
    ]

pub whole-push : (s : Stored) (n : Name) (e : Submission) (o : Outcome) (v : Option Value) → StoreIsWhole s → length s.table.names < 65536
    → AllByRecursion (λ i. i < length s.table.names) (tickets e.inputs)
    → StoreIsWhole (record { table = with_entry s.table n e o; kept = s.kept ++ v ∷ [] })
whole-push s n e o v whole room own =
    let Q : ℕ → Type 0 = λ k. AllByRecursion (λ i. i < k) (tickets e.inputs) in
    record {
      submissions = omega (arith, length-append s.table.names (n ∷ []), length-append s.table.submissions (e ∷ []), whole.submissions);
      outcomes = omega (arith, length-append s.table.names (n ∷ []), length-append s.table.outcomes (o ∷ []), whole.outcomes);
      kept = omega (arith, length-append s.table.names (n ∷ []), length-append s.kept (v ∷ []), whole.kept);
      small = omega (arith, length-append s.table.names (n ∷ []));
      inputs = inputs-push s.table.submissions e whole.inputs (subst Q (sym whole.submissions) own);
    }
