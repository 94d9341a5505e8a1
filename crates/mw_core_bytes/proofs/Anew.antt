-- A released entry is not wanted anew.
use Rattle.std.proofs.Common.{◌≡◌, ℕ, zero, suc, ◌+◌, ◌<◌, ◌≤◌, Bool, true, false, inl, inr, List, [], ◌∷◌, length, nat_eq, not, Option, Some, None, refl, sym, ap, ◌∙◌, subst, arith}
use Rattle.std.specs.Prelude.{◌&&◌}
use Rattle.std.specs.List.{AllByRecursion, list_any, range_with_len}
use Rattle.std.proofs.lemmas.Bool.{cases_Bool, cases_lt, and_parts, eqb-true}
use Rattle.mw_model.proofs.mw_facts.Tests.{list_any-range}
use Rattle.mw_model.specs.declared.names.Name.{Name}
use Rattle.mw_model.specs.declared.shapes.Shape.{Shape}
use Rattle.mw_model.specs.declared.operations.Op.{Op}
use Rattle.mw_model.specs.declared.submissions.Submission.{Submission}
use Rattle.mw_model.specs.declared.codes.Code.TheVariants as code
use Rattle.mw_model.specs.declared.calls.Outcome.{Outcome}
use Rattle.mw_model.specs.declared.calls.Outcome.TheVariants as outcome
use Rattle.mw_model.specs.declared.calls.Call.TheVariants as call
use Rattle.mw_model.specs.Values.{Value, tickets}
use Rattle.mw_model.specs.Refusals.{Table, Wanted, AnImage, AnElement, ticket_of, shape_at, outcome_at, is_pending, is_dead, is_released, is_image, is_element, when, input_case, inputs_wanted, wanted_case, refusal}
use Rattle.mw_model.specs.Machine.{Machine, ticket_wanted, run_submission}
use Rattle.mw_model.specs.Stands.{inputs_of}
use Rattle.mw_core.specs.mw_model_laws.MachineLaws.{IsSound, GrowsTo, MayBecome}
use Rattle.mw_core.proofs.mw_model_laws.RunTables.{first_none, is_known, when_so, inputs_all}
use Rattle.mw_core_bytes.proofs.Asked.{tables-grown, run-asks}
use Rattle.mw_core_bytes.proofs.States.{NoneWantedAnew}

any-from-here : (p : ℕ → Bool) (a n : ℕ) → (list_any p (range_with_len (a + 1) n) ≡ true → (k : ℕ) × (k < a + 1 + n) × (p k ≡ true))
    → (b : Bool) → p a ≡ b → list_any p (range_with_len a (suc n)) ≡ true → (k : ℕ) × (k < a + suc n) × (p k ≡ true)
any-from-here p a n rest true e h = (a, omega arith, e)
any-from-here p a n rest false e h =
    let more : list_any p (range_with_len (a + 1) n) ≡ true = rw e at h in
    let found = rest more in
    (found.0, omega (arith, found.1), found.2)

any-from : (p : ℕ → Bool) (a n : ℕ) → list_any p (range_with_len a n) ≡ true → (k : ℕ) × (k < a + n) × (p k ≡ true)
any-from p a zero h = absurd cc
any-from p a (suc n) h = any-from-here p a n (any-from p (a + 1) n) (p a) refl h

was-pending : (o p : Outcome) → MayBecome o p → is_pending p ≡ true → is_pending o ≡ true
was-pending o p may h = elim may [
  | inl same ↦ ap is_pending (sym same) ∙ h
  | inr other ↦ elim other [
    | inl pending ↦ ap is_pending pending
    | inr done ↦ let clash : false ≡ true = ap is_pending (sym done.1) ∙ h in absurd cc
  ]
]

-- where no new entry has a released one as an input
pub none-anew : (m n : Machine) → IsSound m → GrowsTo m n
    → ((t u : ℕ) → outcome_at m.table.outcomes t ≡ outcome.Released → length m.table.names ≤ u → u < length n.table.names → list_any (nat_eq t) (inputs_of n.table u) ≡ true → ⊥) → NoneWantedAnew m n
none-anew m n s grows fresh t l released wanted =
    let g = tables-grown m n s grows in
    let p : ℕ → Bool = λ u. is_pending (outcome_at n.table.outcomes u) && list_any (nat_eq t) (inputs_of n.table u) in
    let q : ℕ → Bool = λ u. is_pending (outcome_at m.table.outcomes u) && list_any (nat_eq t) (inputs_of m.table u) in
    let found = any-from p 0 (length n.table.names) wanted in
    let u = found.0 in
    let parts = and_parts (is_pending (outcome_at n.table.outcomes u)) (list_any (nat_eq t) (inputs_of n.table u)) found.2 in
    elim (cases_lt u (length m.table.names)) [
      | inl b ↦
          let pending : is_pending (outcome_at m.table.outcomes u) ≡ true = was-pending (outcome_at m.table.outcomes u) (outcome_at n.table.outcomes u) (grows.outcomes u b) parts.0 in
          let inputs : inputs_of m.table u ≡ inputs_of n.table u = sym (ap (λ (e : Submission). tickets e.inputs) (g.entries u b)) in
          let input : list_any (nat_eq t) (inputs_of m.table u) ≡ true = ap (λ (xs : List ℕ). list_any (nat_eq t) xs) inputs ∙ parts.1 in
          list_any-range q 0 (length m.table.names) u (omega arith) (omega (arith, b)) (rw (pending, input) refl)
      | inr past ↦ absurd (fresh t u released past (omega (arith, found.1)) parts.1)
    ]

-- no entry is new
pub none-anew-same : (m n : Machine) → IsSound m → GrowsTo m n → length n.table.names ≡ length m.table.names → NoneWantedAnew m n
none-anew-same m n s grows same = none-anew m n s grows (λ t u released past l input. absurd (omega (arith, past, l, same)))

-- ---- inputs of a command that is accepted

held-by : (w : Table) (fits : Shape → Bool) (n : Name) (t : ℕ) → input_case w fits n ≡ None → ticket_of w.names n ≡ Some t → is_released (outcome_at w.outcomes t) ≡ false
held-by w fits n t h e =
    let known = is_known (ticket_of w.names n) _ h in
    let kinds = first_none (when (not (fits (shape_at w.submissions known.0))) code.Kind) _ known.2 in
    let dead = first_none (when (is_dead (outcome_at w.outcomes known.0)) code.Dead) _ kinds.1 in
    let held = first_none (when (is_released (outcome_at w.outcomes known.0)) code.Released) [] dead.1 in
    let same : known.0 ≡ t = cc (known.1, e) in
    ap (λ i. is_released (outcome_at w.outcomes i)) (sym same) ∙ when_so (is_released (outcome_at w.outcomes known.0)) code.Released held.0

pub input-held : (w : Table) (a : Wanted) (t : ℕ) → wanted_case w a ≡ None → ticket_wanted w a ≡ Some t → is_released (outcome_at w.outcomes t) ≡ false
input-held w (AnImage n) t h e = held-by w is_image n t h e
input-held w (AnElement n) t h e = held-by w is_element n t h e

of-any : (P : ℕ → Type 0) (t : ℕ) (xs : List ℕ) → AllByRecursion P xs → list_any (nat_eq t) xs ≡ true → P t
of-any P t [] all h = absurd cc
of-any P t (x ∷ xs) all h = elim (cases_Bool (nat_eq t x)) [
  | inl e ↦ let is : t ≡ x = eqb-true t x e in subst P (sym is) all.0
  | inr e ↦ let more : list_any (nat_eq t) xs ≡ true = rw e at h in of-any P t xs all.1 more
]

-- none of them is released
pub none-released : (w : Table) (ps : List (Option Value)) (n : Name) (o : Op) (t : ℕ) → refusal w ps (call.Run n o) ≡ None → outcome_at w.outcomes t ≡ outcome.Released → list_any (nat_eq t) (tickets (run_submission w o).inputs) ≡ true → ⊥
none-released w ps n o t free released input =
    let all = inputs_all w (λ i. is_released (outcome_at w.outcomes i) ≡ false) (inputs_wanted o) (input-held w) (run-asks w ps n o free) in
    let held = of-any (λ i. is_released (outcome_at w.outcomes i) ≡ false) t (tickets (run_submission w o).inputs) all input in
    let clash : true ≡ false = sym (ap is_released released) ∙ held in
    cc
