-- Which entries a kill reaches.
use Rattle.std.proofs.Common.{◌≡◌, ◌≢◌, ℕ, ◌<◌, true, false, inl, inr, List, length, find, Some, refl, sym, ap, ◌∙◌, subst, arith, Contains}
use Rattle.std.specs.List.{AllByRecursion}
use Rattle.std.proofs.lemmas.Bool.{cases_eq, cases_Bool, both_ways}
use Rattle.mw_model.proofs.mw_facts.Alls.{all-contains}
use Rattle.mw_model.proofs.mw_facts.Finds.{find-contains, find-some, option_cases}
use Rattle.mw_model.proofs.mw_facts.Numbers.{strong_induction}
use Rattle.mw_model.specs.declared.calls.Outcome.{Outcome}
use Rattle.mw_model.specs.declared.calls.Outcome.TheVariants as outcome
use Rattle.mw_model.specs.Refusals.{Table, outcome_at, is_pending, is_dead}
use Rattle.mw_model.specs.Machine.{Machine, killed, CanDie}
use Rattle.mw_model_laws.specs.MachineLaws.{inputs_at, first_dead, IsKilled, IsSound, HangsOn, at_once, through}
use Rattle.mw_model_laws.proofs.RunCascade.{is_killed, pending_is, dead_not_pending}

input_dead : (s : ℕ) → is_dead (outcome.Input s) ≡ true
input_dead s = refl

-- an entry with a dead input fails
fails_with : (w v : Table) (t : ℕ) (cause : Outcome) (u i : ℕ) → IsKilled w v t cause → u < length w.outcomes → u ≢ t → outcome_at w.outcomes u ≡ outcome.Pending
    → Contains (inputs_at w.submissions u) i → is_dead (outcome_at v.outcomes i) ≡ true → is_dead (outcome_at v.outcomes u) ≡ true
fails_with w v t cause u i k h n e c dead =
    let P : List ℕ → Type 0 = λ xs. (s : ℕ) × (find (λ j. is_dead (outcome_at v.outcomes j)) xs ≡ Some s) in
    let found : (s : ℕ) × (first_dead v u ≡ Some s) = subst P (sym (ap (λ es. inputs_at es u) k.submissions)) (find-contains (λ j. is_dead (outcome_at v.outcomes j)) (inputs_at w.submissions u) i c dead) in
    ap is_dead ((k.fails u found.0 h n e).1 found.1) ∙ input_dead found.0

-- a kill reaches what hangs on t
reached_dies : (w v : Table) (t : ℕ) (cause : Outcome) → IsKilled w v t cause → is_dead cause ≡ true
    → ((u : ℕ) → u < length w.outcomes → AllByRecursion (λ i. i < u) (inputs_at w.submissions u))
    → (u : ℕ) → HangsOn w t u → u < length w.outcomes → u ≢ t → is_dead (outcome_at v.outcomes u) ≡ true
reached_dies w v t cause k dead below u (at_once x e c) h n = fails_with w v t cause x t k h n e c (ap is_dead k.dies ∙ dead)
reached_dies w v t cause k dead below u (through x i e c more) h n =
    let less : i < x = all-contains (λ j. j < x) (inputs_at w.submissions x) i (below x h) c in
    fails_with w v t cause x i k h n e c (elim (cases_eq i t) [
      | inl same ↦ ap (λ j. is_dead (outcome_at v.outcomes j)) same ∙ ap is_dead k.dies ∙ dead
      | inr other ↦ reached_dies w v t cause k dead below i more (omega arith) other
    ])

-- a kill reaches nothing else
dies_reached : (w v : Table) (t : ℕ) (cause : Outcome) → IsKilled w v t cause
    → ((u : ℕ) → u < length w.outcomes → AllByRecursion (λ i. i < u) (inputs_at w.submissions u))
    → ((u : ℕ) → u < length w.outcomes → outcome_at w.outcomes u ≡ outcome.Pending → AllByRecursion (λ i. is_dead (outcome_at w.outcomes i) ≡ false) (inputs_at w.submissions u))
    → (u : ℕ) → u < length w.outcomes → u ≢ t → outcome_at w.outcomes u ≡ outcome.Pending → is_dead (outcome_at v.outcomes u) ≡ true → HangsOn w t u
dies_reached w v t cause k below alive =
    let P : ℕ → Type 0 = λ u. u < length w.outcomes → u ≢ t → outcome_at w.outcomes u ≡ outcome.Pending → is_dead (outcome_at v.outcomes u) ≡ true → HangsOn w t u in
    strong_induction P (λ u smaller h n e dead. elim (option_cases (first_dead v u)) [
      | inl f ↦ let g : is_dead (outcome_at v.outcomes u) ≡ false = ap is_dead ((k.waits u h n e).1 f) in absurd (both_ways (is_dead (outcome_at v.outcomes u)) g dead)
      | inr f ↦
          let i = f.0 in
          let found = find-some (λ j. is_dead (outcome_at v.outcomes j)) (inputs_at v.submissions u) i f.1 in
          let Q : List ℕ → Type 0 = λ xs. Contains xs i in
          let c : Contains (inputs_at w.submissions u) i = subst Q (ap (λ es. inputs_at es u) k.submissions) found.0 in
          let less : i < u = all-contains (λ j. j < u) (inputs_at w.submissions u) i (below u h) c in
          let was : is_dead (outcome_at w.outcomes i) ≡ false = all-contains (λ j. is_dead (outcome_at w.outcomes j) ≡ false) (inputs_at w.submissions u) i (alive u h e) c in
          elim (cases_eq i t) [
            | inl same ↦ let R : ℕ → Type 0 = λ j. Contains (inputs_at w.submissions u) j in at_once u e (subst R same c)
            | inr other ↦ elim (cases_Bool (is_pending (outcome_at w.outcomes i))) [
              | inl p ↦ through u i e c (smaller i less (omega arith) other (pending_is (outcome_at w.outcomes i) p) found.1)
              | inr p ↦
                  let stays = k.settled i other (λ g. both_ways (is_pending (outcome_at w.outcomes i)) p (ap is_pending g)) in
                  absurd (both_ways (is_dead (outcome_at w.outcomes i)) was (ap is_dead (sym stays) ∙ found.1))
            ]
          ]
    ])

-- a kill reaches exactly what hangs on t
pub kill_reaches : (m : Machine) (t : ℕ) (cause : Outcome) (u : ℕ) → IsSound m → CanDie m.table t → is_dead cause ≡ true → u < length m.table.names → u ≢ t → outcome_at m.table.outcomes u ≡ outcome.Pending
    → ((is_dead (outcome_at (killed m.table t cause).outcomes u) ≡ true → HangsOn m.table t u) × (HangsOn m.table t u → is_dead (outcome_at (killed m.table t cause).outcomes u) ≡ true))
kill_reaches m t cause u s can dead h n e =
    let w = m.table in
    let v = killed w t cause in
    let outs : length w.outcomes ≡ length w.names = s.lengths.outcomes in
    let below : (x : ℕ) → x < length w.outcomes → AllByRecursion (λ i. i < x) (inputs_at w.submissions x) = λ x l. s.inputs x (omega arith) in
    let alive : (x : ℕ) → x < length w.outcomes → outcome_at w.outcomes x ≡ outcome.Pending → AllByRecursion (λ i. is_dead (outcome_at w.outcomes i) ≡ false) (inputs_at w.submissions x) = λ x l p. s.pending x (omega arith) p in
    let k : IsKilled w v t cause = is_killed w t cause (omega (arith, s.lengths.submissions)) below can.within (dead_not_pending cause dead) in
    (λ d. dies_reached w v t cause k below alive u (omega arith) n e d, λ d. reached_dies w v t cause k dead below u d (omega arith) n)
