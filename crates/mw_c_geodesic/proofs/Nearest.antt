-- The least that is told of places with a label, place by place.
use Rattle.std.proofs.Common.{◌≡◌, ℕ, ◌+◌, ◌-◌, ◌^◌, List, get_or, min, ap, sym, arith, ◌∙◌, inl, inr}
use Rattle.std.specs.Prelude.{◌==◌, if◌then◌else◌}
use Rattle.std.proofs.lemmas.Bool.{cases_lt, cases_eq, eq-eqb, ne_eqb}
use Rattle.mw_c_geodesic.specs.Sides.{IsToldBefore, IsLeastTold}

pub none_told : (told : ℕ → ℕ) (labels : List ℕ) (n v : ℕ) → v ≡ 2 ^ 32 - 1 → IsLeastTold told labels 0 n v
none_told told labels n v top = record { met = inr top; least = λ j lt. absurd (omega arith) }

told_on : (told : ℕ → ℕ) (labels : List ℕ) (i n v : ℕ) → IsToldBefore told labels i n v → IsToldBefore told labels (i + 1) n v
told_on told labels i n v t = let before = t.before in record { at = t.at; before = omega arith; label = t.label; is = t.is }

-- a place with another label changes nothing
other_told : (told : ℕ → ℕ) (labels : List ℕ) (i n v v' : ℕ) → (get_or labels i 0 ≡ n → ⊥) → v' ≡ v → IsLeastTold told labels i n v → IsLeastTold told labels (i + 1) n v'
other_told told labels i n v v' ne same was = record {
  met = elim was.met [
    | inl t ↦ let on = told_on told labels i n v t in inl (record { at = on.at; before = on.before; label = on.label; is = on.is ∙ sym same })
    | inr top ↦ inr (same ∙ top)
  ];
  least = λ j lt label. elim (cases_lt j i) [
    | inl old ↦ let low = was.least j old label in omega arith
    | inr from ↦
        let here : i ≡ j = omega arith in
        absurd (ne (ap (λ (t : ℕ). get_or labels t 0) here ∙ label))
  ];
}

-- one with the label is told too
same_told : (told : ℕ → ℕ) (labels : List ℕ) (i n v v' : ℕ) → get_or labels i 0 ≡ n → v' ≡ min v (told i) → IsLeastTold told labels i n v → IsLeastTold told labels (i + 1) n v'
same_told told labels i n v v' here is was = record {
  met = elim (cases_lt (told i) v) [
    | inl less ↦ inl (record { at = i; before = omega arith; label = here; is = omega arith })
    | inr le ↦ elim was.met [
      | inl t ↦ let before = t.before in let same : v ≡ v' = omega arith in inl (record { at = t.at; before = omega arith; label = t.label; is = t.is ∙ same })
      | inr top ↦ let same : v' ≡ v = omega arith in inr (same ∙ top)
    ]
  ];
  least = λ j lt label. elim (cases_lt j i) [
    | inl old ↦ let low = was.least j old label in omega arith
    | inr from ↦
        let at : j ≡ i = omega arith in
        let now : told j ≡ told i = ap told at in
        omega arith
  ];
}

pub told_more : (told : ℕ → ℕ) (labels : List ℕ) (i n v v' : ℕ) → v' ≡ (if get_or labels i 0 == n then min v (told i) else v) → IsLeastTold told labels i n v → IsLeastTold told labels (i + 1) n v'
told_more told labels i n v v' is was = elim (cases_eq (get_or labels i 0) n) [
  | inl here ↦ same_told told labels i n v v' here (is ∙ ap (λ b. if b then min v (told i) else v) (eq-eqb (get_or labels i 0) n here)) was
  | inr ne ↦ other_told told labels i n v v' ne (is ∙ ap (λ b. if b then min v (told i) else v) (ne_eqb (get_or labels i 0) n ne)) was
]

pub told_next : (told : ℕ → ℕ) (labels items old : List ℕ) (i k t v : ℕ) → old ≡ items → t ≡ told i → v ≡ (if get_or labels i 0 == k + 1 then min (get_or old k 0) t else get_or old k 0) → IsLeastTold told labels i (k + 1) (get_or items k 0)
    → IsLeastTold told labels (i + 1) (k + 1) v
told_next told labels items old i k t v same is now was =
    told_more told labels i (k + 1) (get_or items k 0) v
    (now
    ∙ ap (λ (xs : List ℕ). if get_or labels i 0 == k + 1 then min (get_or xs k 0) t else get_or xs k 0) same
    ∙ ap (λ (s : ℕ). if get_or labels i 0 == k + 1 then min (get_or items k 0) s else get_or items k 0) is) was
