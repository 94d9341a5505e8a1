-- How a row is lowered.
use Rattle.std.proofs.Common.{◌≡◌, ℕ, ◌+◌, ◌-◌, ◌<◌, ◌≤◌, ◌⊎◌, min, refl, arith, inl, inr}
use Rattle.std.proofs.lemmas.Bool.{cases_lt, cases_eq, cases_order}
use Rattle.mw_geodesic_distances.specs.Rows.{IsLoweredStraight, IsLoweredFromLeft, IsLoweredFromRight, IsFrom, IsPulled, IsRunRight, IsRunLeft, IsAfter, IsOneOverNext, IsStepRight, IsStepLeft}

cases_min : (m a b : ℕ) → m ≡ min a b → (m ≡ a) ⊎ (m ≡ b)
cases_min m a b is = elim (cases_lt a b) [ inl lt ↦ inl (omega arith) | inr le ↦ inr (omega arith) ]

from_wider : (reach wide n : ℕ) (other : ℕ → ℕ) (x s t : ℕ) → reach ≤ wide → t ≡ s → IsFrom reach n other x s → IsFrom wide n other x t
from_wider reach wide n other x s t le same from =
    let left = from.left in
    let right = from.right in
    let is = from.is in
    record { column = from.column; within = from.within; left = omega arith; right = omega arith; is = omega arith }

-- ---- by the other row

pub pulled_straight : (reach n : ℕ) (other old new : ℕ → ℕ) → reach ≡ 0 → IsLoweredStraight n other old new → IsPulled reach n other old new
pulled_straight reach n other old new none made = record {
  less = λ x lt. let is = made x lt in omega arith;
  across = λ x u lt lt' left right.
      let same : u ≡ x = omega arith in
      let is = made x lt in
      rw same (omega arith);
  reason = λ x lt. elim (cases_min (new x) (old x) (other x + 1) (made x lt)) [
    | inl same ↦ inl same
    | inr one ↦ inr (record { column = x; within = lt; left = omega arith; right = omega arith; is = one })
  ];
}

-- lowered by one column more
more_from_left : (n : ℕ) (other old new : ℕ → ℕ) → IsLoweredFromLeft n other old new → (x : ℕ) → x < n → (new x ≡ old x) ⊎ IsFrom 1 n other x (new x)
more_from_left n other old new made x lt = elim (cases_eq x 0) [
  | inl begins ↦ inl (rw begins made.first)
  | inr some ↦
      let next : x - 1 + 1 ≡ x = omega arith in
      elim (cases_min (new x) (old x) (other (x - 1) + 1) (made.along (x - 1) x next lt)) [
        | inl same ↦ inl same
        | inr one ↦ inr (record { column = x - 1; within = omega arith; left = omega arith; right = omega arith; is = one })
      ]
]

more_from_right : (n : ℕ) (other old new : ℕ → ℕ) → IsLoweredFromRight n other old new → (x : ℕ) → x < n → (new x ≡ old x) ⊎ IsFrom 1 n other x (new x)
more_from_right n other old new made x lt = elim (cases_eq (x + 1) n) [
  | inl end ↦ inl (made.last x end)
  | inr some ↦
      let inside : x + 1 < n = omega arith in
      elim (cases_min (new x) (old x) (other (x + 1) + 1) (made.along x (x + 1) refl inside)) [
        | inl same ↦ inl same
        | inr one ↦ inr (record { column = x + 1; within = inside; left = omega arith; right = omega arith; is = one })
      ]
]

left_less : (n : ℕ) (other old new : ℕ → ℕ) → IsLoweredFromLeft n other old new → (x : ℕ) → x < n → new x ≤ old x
left_less n other old new made x lt = elim (cases_eq x 0) [
  | inl begins ↦ rw begins (let same = made.first in omega arith)
  | inr some ↦
      let next : x - 1 + 1 ≡ x = omega arith in
      let is = made.along (x - 1) x next lt in
      omega arith
]

right_less : (n : ℕ) (other old new : ℕ → ℕ) → IsLoweredFromRight n other old new → (x : ℕ) → x < n → new x ≤ old x
right_less n other old new made x lt = elim (cases_eq (x + 1) n) [
  | inl end ↦ let same = made.last x end in omega arith
  | inr some ↦
      let inside : x + 1 < n = omega arith in
      let is = made.along x (x + 1) refl inside in
      omega arith
]

pub pulled_wide : (reach n : ℕ) (other old a b new : ℕ → ℕ) → reach ≡ 1 → IsLoweredStraight n other old a → IsLoweredFromLeft n other a b → IsLoweredFromRight n other b new → IsPulled reach n other old new
pulled_wide reach n other old a b new one straight left right = record {
  less = λ x lt.
      let first = straight x lt in
      let second = left_less n other a b left x lt in
      let third = right_less n other b new right x lt in
      omega arith;
  across = λ x u lt lt' from to.
      let first = straight x lt in
      let second = left_less n other a b left x lt in
      let third = right_less n other b new right x lt in
      elim (cases_order u x) [
        | inl same ↦ rw same (omega arith)
        | inr (inl before) ↦
            let next : u + 1 ≡ x = omega arith in
            let is = left.along u x next lt in
            omega arith
        | inr (inr after) ↦
            let next : x + 1 ≡ u = omega arith in
            let is = right.along x u next lt' in
            omega arith
      ];
  reason = λ x lt. elim (more_from_right n other b new right x lt) [
    | inr from ↦ inr (from_wider 1 reach n other x (new x) (new x) (omega arith) refl from)
    | inl same ↦ elim (more_from_left n other a b left x lt) [
      | inr from ↦ inr (from_wider 1 reach n other x (b x) (new x) (omega arith) same from)
      | inl same' ↦ elim (cases_min (a x) (old x) (other x + 1) (straight x lt)) [
        | inl stood ↦ inl (omega arith)
        | inr is ↦ inr (record { column = x; within = lt; left = omega arith; right = omega arith; is = omega arith })
      ]
    ]
  ];
}

-- ---- along the row

pub stepped_right : (reach n : ℕ) (other old mid new : ℕ → ℕ) → IsPulled reach n other old mid → IsRunRight n mid new → IsStepRight reach n other old new
stepped_right reach n other old mid new pulled run = record {
  less = λ x lt.
      let first = pulled.less x lt in
      let second = less x lt in
      omega arith;
  along = λ u x next lt. let is = run.along u x next lt in omega arith;
  across = λ x u lt lt' left right.
      let first = pulled.across x u lt lt' left right in
      let second = less x lt in
      omega arith;
  reason = λ x lt. elim (reason x lt) [
    | inr after ↦ inr (inl after)
    | inl same ↦ elim (pulled.reason x lt) [
      | inl same' ↦ inl (omega arith)
      | inr from ↦ inr (inr (from_wider reach reach n other x (mid x) (new x) (omega arith) same from))
    ]
  ];
}
  where
    less : (x : ℕ) → x < n → new x ≤ mid x
    less x lt = elim (cases_eq x 0) [
      | inl begins ↦ rw begins (let same = run.first in omega arith)
      | inr some ↦
          let next : x - 1 + 1 ≡ x = omega arith in
          let is = run.along (x - 1) x next lt in
          omega arith
    ]

    reason : (x : ℕ) → x < n → (new x ≡ mid x) ⊎ IsAfter new x
    reason x lt = elim (cases_eq x 0) [
      | inl begins ↦ inl (rw begins run.first)
      | inr some ↦
          let next : x - 1 + 1 ≡ x = omega arith in
          elim (cases_min (new x) (mid x) (new (x - 1) + 1) (run.along (x - 1) x next lt)) [
            | inl same ↦ inl same
            | inr one ↦ inr (record { column = x - 1; next = next; is = one })
          ]
    ]

pub stepped_left : (reach n : ℕ) (other old mid new : ℕ → ℕ) → IsPulled reach n other old mid → IsRunLeft n mid new → IsStepLeft reach n other old new
stepped_left reach n other old mid new pulled run = record {
  less = λ x lt.
      let first = pulled.less x lt in
      let second = less x lt in
      omega arith;
  along = λ x u next lt. let is = run.along x u next lt in omega arith;
  across = λ x u lt lt' left right.
      let first = pulled.across x u lt lt' left right in
      let second = less x lt in
      omega arith;
  reason = λ x lt. elim (reason x lt) [
    | inr before ↦ inr (inl before)
    | inl same ↦ elim (pulled.reason x lt) [
      | inl same' ↦ inl (omega arith)
      | inr from ↦ inr (inr (from_wider reach reach n other x (mid x) (new x) (omega arith) same from))
    ]
  ];
}
  where
    less : (x : ℕ) → x < n → new x ≤ mid x
    less x lt = elim (cases_eq (x + 1) n) [
      | inl end ↦ let same = run.last x end in omega arith
      | inr some ↦
          let inside : x + 1 < n = omega arith in
          let is = run.along x (x + 1) refl inside in
          omega arith
    ]

    reason : (x : ℕ) → x < n → (new x ≡ mid x) ⊎ IsOneOverNext n new x
    reason x lt = elim (cases_eq (x + 1) n) [
      | inl end ↦ inl (run.last x end)
      | inr some ↦
          let inside : x + 1 < n = omega arith in
          elim (cases_min (new x) (mid x) (new (x + 1) + 1) (run.along x (x + 1) refl inside)) [
            | inl same ↦ inl same
            | inr one ↦ inr (record { column = x + 1; next = refl; within = inside; is = one })
          ]
    ]
