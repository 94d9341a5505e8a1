-- While an entry is pending, one can finish.
use Rattle.std.proofs.Common.{◌≡◌, ℕ, ◌<◌, true, false, ◌⊎◌, inl, inr, List, [], ◌∷◌, length, refl, arith}
use Rattle.std.specs.List.{AllByRecursion}
use Rattle.mw_model.specs.declared.calls.Outcome.{Outcome}
use Rattle.mw_model.specs.declared.calls.Outcome.TheVariants as outcome
use Rattle.mw_model.specs.Refusals.{outcome_at, is_dead, is_there}
use Rattle.mw_model.specs.Machine.{Machine, CanFinish}
use Rattle.mw_model_laws.specs.MachineLaws.{inputs_at, IsSound}
use Rattle.mw_model.proofs.mw_facts.Numbers.{strong_induction}

there_or_pending : (o : Outcome) → is_dead o ≡ false → (is_there o ≡ true) ⊎ (o ≡ outcome.Pending)
there_or_pending outcome.Pending h = inr refl
there_or_pending outcome.Done h = inl refl
there_or_pending outcome.Cancelled h = absurd cc
there_or_pending outcome.Memory h = absurd cc
there_or_pending (outcome.Input s) h = absurd cc
there_or_pending outcome.Released h = inl refl

-- inputs that are not dead are all there, or one of them is pending
all_there_or_pending : (os : List Outcome) (P : ℕ → Type 0) (xs : List ℕ) → AllByRecursion P xs → AllByRecursion (λ i. is_dead (outcome_at os i) ≡ false) xs
    → AllByRecursion (λ i. is_there (outcome_at os i) ≡ true) xs ⊎ ((i : ℕ) × P i × (outcome_at os i ≡ outcome.Pending))
all_there_or_pending os P [] p h = inl tt
all_there_or_pending os P (x ∷ xs) p h = elim (there_or_pending (outcome_at os x) h.0) [
  | inl e ↦ elim (all_there_or_pending os P xs p.1 h.1) [ inl f ↦ inl (e, f) | inr f ↦ inr f ]
  | inr e ↦ inr (x, p.0, e)
]

-- the first pending entry can finish
pub one_can_finish : (m : Machine) (t : ℕ) → IsSound m → t < length m.table.names → outcome_at m.table.outcomes t ≡ outcome.Pending → (u : ℕ) × CanFinish m.table u
one_can_finish m t s =
    let P : ℕ → Type 0 = λ v. v < length m.table.names → outcome_at m.table.outcomes v ≡ outcome.Pending → (u : ℕ) × CanFinish m.table u in
    strong_induction P (λ v smaller l e.
    elim (all_there_or_pending m.table.outcomes (λ i. i < v) (inputs_at m.table.submissions v) (s.inputs v l) (s.pending v l e)) [
      | inl f ↦ (v, record { within = omega (arith, s.lengths.outcomes); pending = e; inputs_there = f })
      | inr f ↦ smaller f.0 f.1 (omega (arith, f.1)) f.2
    ]) t
