-- Flags of tasks, of which one is set.
use Rattle.std.proofs.Common.{◌≡◌, ℕ, ◌<◌, Bool, true, false, inl, inr, List, length, set, sym, ◌∙◌, subst}
use Rattle.std.proofs.lemmas.Bool.{cases_lt, cases_eq}
use Rattle.std.proofs.lemmas.List.{get_or_past, get_or-set_same, get_or-set_other}
use Rattle.mw_model.specs.Tasks.{flag}

pub flag-past : (flags : List Bool) (n : ℕ) → flag flags n ≡ true → n < length flags
flag-past flags n h =
    elim (cases_lt n (length flags)) [ inl l ↦ l | inr past ↦ let e : flag flags n ≡ false = get_or_past flags n false past in absurd cc ]

-- a flag that is set stays so where one is set
pub flag-set : (flags : List Bool) (n k : ℕ) → flag flags k ≡ true → flag (set flags n true) k ≡ true
flag-set flags n k h =
    elim (cases_eq k n) [
      | inl e ↦
          let within : n < length flags = flag-past flags n (subst (λ (x : ℕ). flag flags x ≡ true) e h) in
          subst (λ (x : ℕ). flag (set flags n true) x ≡ true) (sym e) (get_or-set_same flags n true false within)
      | inr d ↦ get_or-set_other flags n k true false d ∙ h
    ]
