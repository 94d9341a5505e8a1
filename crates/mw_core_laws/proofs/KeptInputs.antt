-- What is kept of the inputs of a ticket that may run is what they are by the definitions.
use Rattle.std.proofs.Common.{◌≡◌, ℕ, ◌<◌, Bool, true, false, ◌||◌, ◌⊎◌, inl, inr, List, [], ◌∷◌, length, map, nat_eq, Option, IsSome, refl, sym, arith}
use Rattle.std.specs.List.{AllByRecursion, list_all, list_any}
use Rattle.std.proofs.lemmas.Bool.{cases_Bool, eq-eqb}
use Rattle.mw_model.specs.declared.calls.Outcome.{Outcome}
use Rattle.mw_model.specs.declared.calls.Outcome.TheVariants as outcome
use Rattle.mw_model.specs.Values.{Value, value_at}
use Rattle.mw_model.specs.Refusals.{Table, outcome_at, is_pending, is_there}
use Rattle.mw_model.specs.Machine.{Machine, values}
use Rattle.mw_model.specs.Stands.{Agrees, inputs_of, inputs_there, input_values, is_wanted}
use Rattle.mw_core_laws.proofs.Later.{there-within}
use Rattle.mw_core_laws.proofs.FateLemmas.{wanted-at}
use Rattle.mw_core_laws.proofs.RefusalLemmas.{some-same}

-- what is kept of the inputs of a ticket
abbrev pub kept_inputs : Table → List (Option Value) → ℕ → List (Option Value)
kept_inputs w kept t = map (value_at kept) (inputs_of w t)

there-is : (o : Outcome) → is_there o ≡ true → (o ≡ outcome.Done) ⊎ (o ≡ outcome.Released)
there-is outcome.Pending h = absurd cc
there-is outcome.Done h = inl refl
there-is outcome.Cancelled h = absurd cc
there-is outcome.Memory h = absurd cc
there-is (outcome.Input s) h = absurd cc
there-is outcome.Released h = inr refl

-- what an entry that may run has as an input is kept
input-kept : (kept : List (Option Value)) (m : Machine) (t i : ℕ) → Agrees kept m → length m.table.outcomes ≡ length m.table.names → t < length m.table.names
    → is_pending (outcome_at m.table.outcomes t) ≡ true → list_any (nat_eq i) (inputs_of m.table t) ≡ true → is_there (outcome_at m.table.outcomes i) ≡ true
    → value_at kept i ≡ value_at (values m) i
input-kept kept m t i a long within pending input there =
    let named : i < length m.table.names = omega (arith, there-within m.table.outcomes i there) in
    let wanted : is_wanted m.table i ≡ true = wanted-at m.table i t (record { within = within; pending = pending; input = input }) in
    let some : IsSome (value_at kept i) = elim (there-is (outcome_at m.table.outcomes i) there) [ inl d ↦ a.done i named d | inr r ↦ (a.released i named r).1 wanted ] in
    sym (some-same (value_at kept i) (value_at (values m) i) some (λ v e. a.own i v e))

map-inputs : (f g : ℕ → Option Value) (there : ℕ → Bool) (xs : List ℕ) → ((i : ℕ) → list_any (nat_eq i) xs ≡ true → there i ≡ true → f i ≡ g i) → list_all there xs ≡ true → map f xs ≡ map g xs
map-inputs f g there [] same h = refl
map-inputs f g there (x ∷ xs) same h =
    elim (cases_Bool (there x)) [
      | inl e ↦
          let rest : list_all there xs ≡ true = rw e at h in
          let here : list_any (nat_eq x) (x ∷ xs) ≡ true = rw (eq-eqb x x refl) refl in
          rw (same x here e, map-inputs f g there xs (λ i l k. same i (any-more (nat_eq i x) (list_any (nat_eq i) xs) l) k) rest) refl
      | inr e ↦ let no : false ≡ true = rw e at h in absurd cc
    ]
  where
    any-more : (a b : Bool) → b ≡ true → (a || b) ≡ true
    any-more true b h = refl
    any-more false b h = h

pub inputs-kept : (kept : List (Option Value)) (m : Machine) (t : ℕ) → Agrees kept m → length m.table.outcomes ≡ length m.table.names → t < length m.table.names
    → is_pending (outcome_at m.table.outcomes t) ≡ true → inputs_there m.table t ≡ true → kept_inputs m.table kept t ≡ input_values m t
inputs-kept kept m t a long within pending there =
    map-inputs (value_at kept) (value_at (values m)) (λ i. is_there (outcome_at m.table.outcomes i)) (inputs_of m.table t) (λ i input is. input-kept kept m t i a long within pending input is) there

pub all-there-list : (p : ℕ → Bool) (xs : List ℕ) → list_all p xs ≡ true → AllByRecursion (λ i. p i ≡ true) xs
all-there-list p [] h = tt
all-there-list p (x ∷ xs) h =
    elim (cases_Bool (p x)) [
      | inl e ↦ let rest : list_all p xs ≡ true = rw e at h in (e, all-there-list p xs rest)
      | inr e ↦ let no : false ≡ true = rw e at h in absurd cc
    ]
