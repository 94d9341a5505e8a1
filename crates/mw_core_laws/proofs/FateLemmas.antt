-- What a kill makes of the entries, and who still waits for whom.
use Rattle.std.proofs.Common.{◌≡◌, ℕ, zero, suc, ◌+◌, ◌<◌, Bool, true, false, inl, inr, [], length, set, nat_eq, refl, sym, ap, ◌∙◌, subst, arith, zero-add}
use Rattle.std.specs.Prelude.{◌&&◌}
use Rattle.std.specs.List.{list_any, range_with_len}
use Rattle.std.proofs.lemmas.List.{get_or-set_same, get_or-set_other, get_or_past, length-set}
use Rattle.std.proofs.lemmas.Bool.{cases_lt, cases_eq, and_parts}
use Rattle.mw_model.proofs.mw_facts.Tests.{list_any-range}
use Rattle.mw_model.specs.declared.calls.Outcome.{Outcome}
use Rattle.mw_model.specs.declared.calls.Outcome.TheVariants as outcome
use Rattle.mw_model.specs.Refusals.{Table, outcome_at, is_pending, is_dead, is_there}
use Rattle.mw_model.specs.Machine.{killed, cascaded}
use Rattle.mw_model.specs.Stands.{is_wanted, inputs_of}
use Rattle.mw_store.proofs.mw_model_laws.RunCascade.{length_killed}
use Rattle.mw_store.proofs.CascadeLemmas.{Fate, cascaded-fate}

-- a kill leaves an entry as it is, or it was pending and dies
pub killed-fate : (w : Table) (t : ℕ) (cause : Outcome) → length w.submissions ≡ length w.outcomes → t < length w.outcomes → outcome_at w.outcomes t ≡ outcome.Pending → is_dead cause ≡ true
    → (u : ℕ) → Fate (outcome_at w.outcomes u) (outcome_at (killed w t cause).outcomes u)
unfolding killed
killed-fate w t cause same within pending dead u =
    let os = w.outcomes in
    let ns = set os t cause in
    let after = cascaded [] w.submissions ns in
    let long : length w.submissions ≡ length ns = omega (arith, length-set os t cause) in
    elim (cases_lt u (length os)) [
      | inl l ↦
          let P : ℕ → Type 0 = λ k. Fate (outcome_at ns u) (outcome_at after k) in
          let fate : Fate (outcome_at ns u) (outcome_at after u) = subst P (zero-add u) (cascaded-fate [] w.submissions ns u long (omega (arith, length-set os t cause))) in
          elim (cases_eq u t) [
            | inl e ↦
                let hit : outcome_at ns u ≡ cause = rw e (get_or-set_same os t cause outcome.Pending within) in
                let was : outcome_at os u ≡ outcome.Pending = rw e pending in
                elim fate [
                  | inl f ↦ inr (was, ap is_dead (f ∙ hit) ∙ dead)
                  | inr f ↦ inr (was, f.1)
                ]
            | inr n ↦
                let miss : outcome_at ns u ≡ outcome_at os u = get_or-set_other os t u cause outcome.Pending n in
                elim fate [ inl f ↦ inl (f ∙ miss) | inr f ↦ inr (sym miss ∙ f.0, f.1) ]
          ]
      | inr past ↦
          let before : outcome_at os u ≡ outcome.Pending = get_or_past os u outcome.Pending past in
          let later : length (killed w t cause).outcomes ≡ length os = length_killed w t cause same in
          let behind : outcome_at after u ≡ outcome.Pending = get_or_past after u outcome.Pending (omega (arith, later)) in
          inl (behind ∙ sym before)
    ]

dead-not-there : (o : Outcome) → is_dead o ≡ true → is_there o ≡ false
dead-not-there outcome.Pending h = cc
dead-not-there outcome.Done h = cc
dead-not-there outcome.Cancelled h = refl
dead-not-there outcome.Memory h = refl
dead-not-there (outcome.Input s) h = refl
dead-not-there outcome.Released h = cc

-- what is there after it was the same before
pub fate-there : (old new : Outcome) → Fate old new → is_there new ≡ true → new ≡ old
fate-there old new f h = elim f [ inl e ↦ e | inr e ↦ let d = dead-not-there new e.1 in absurd cc ]

-- what was there stays
pub there-stays : (old new : Outcome) → Fate old new → is_there old ≡ true → new ≡ old
there-stays old new f h = elim f [ inl e ↦ e | inr e ↦ let d = ap is_there e.0 in absurd cc ]

-- ---- who waits

any-from_here : (p : ℕ → Bool) (a n : ℕ) → (list_any p (range_with_len (a + 1) n) ≡ true → (k : ℕ) × (k < a + 1 + n) × (p k ≡ true))
    → (b : Bool) → p a ≡ b → list_any p (range_with_len a (suc n)) ≡ true → (k : ℕ) × (k < a + suc n) × (p k ≡ true)
any-from_here p a n rest true e h = (a, omega arith, e)
any-from_here p a n rest false e h =
    let more : list_any p (range_with_len (a + 1) n) ≡ true = rw e at h in
    let found = rest more in
    (found.0, omega (arith, found.1), found.2)

any-from : (p : ℕ → Bool) (a n : ℕ) → list_any p (range_with_len a n) ≡ true → (k : ℕ) × (k < a + n) × (p k ≡ true)
any-from p a zero h = absurd cc
any-from p a (suc n) h = any-from_here p a n (any-from p (a + 1) n) (p a) refl h

-- a pending entry has the ticket as an input
pub record Waits (w : Table) (t u : ℕ) : Type 0 where
  pub within : u < length w.names
  pub pending : is_pending (outcome_at w.outcomes u) ≡ true
  pub input : list_any (nat_eq t) (inputs_of w u) ≡ true

pub wanted-by : (w : Table) (t : ℕ) → is_wanted w t ≡ true → (u : ℕ) × Waits w t u
wanted-by w t h =
    let p : ℕ → Bool = λ u. is_pending (outcome_at w.outcomes u) && list_any (nat_eq t) (inputs_of w u) in
    let found = any-from p 0 (length w.names) h in
    let parts = and_parts (is_pending (outcome_at w.outcomes found.0)) (list_any (nat_eq t) (inputs_of w found.0)) found.2 in
    (found.0, record { within = omega (arith, found.1); pending = parts.0; input = parts.1 })

pub wanted-at : (w : Table) (t u : ℕ) → Waits w t u → is_wanted w t ≡ true
wanted-at w t u waits =
    let p : ℕ → Bool = λ u. is_pending (outcome_at w.outcomes u) && list_any (nat_eq t) (inputs_of w u) in
    list_any-range p 0 (length w.names) u (omega arith) (omega (arith, waits.within)) (rw (waits.pending, waits.input) refl)
