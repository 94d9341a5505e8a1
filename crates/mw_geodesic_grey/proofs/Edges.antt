-- The places at the border of a frame, and rows of which the places between them are cleared.
use Rattle.std.proofs.Common.{◌≡◌, ℕ, ◌+◌, ◌-◌, ◌*◌, ◌<◌, ◌≤◌, ◌⊎◌, Bool, true, false, refl, ap, sym, arith, ◌∙◌, inl, inr}
use Rattle.std.specs.Prelude.{◌||◌, ◌==◌, if◌then◌else◌}
use Rattle.std.proofs.Math.Nat.{mul-le-mul_left}
use Rattle.std.proofs.lemmas.Bool.{cases_lt, eq-eqb, ne_eqb}
use Rattle.mw_geodesic_grey.specs.Places.{kept_at_border}

any_of : (a b c d : Bool) (s : ℕ) → (a ≡ true) ⊎ ((b ≡ true) ⊎ ((c ≡ true) ⊎ (d ≡ true))) → (if a || b || c || d then s else 0) ≡ s
any_of true b c d s e = refl
any_of false true c d s e = refl
any_of false false true d s e = refl
any_of false false false true s e = refl
any_of false false false false s e = absurd (elim e [
  | inl a ↦ cc
  | inr rest ↦ elim rest [
    | inl b ↦ cc
    | inr rest' ↦ elim rest' [
      | inl c ↦ cc
      | inr d ↦ cc
    ]
  ]
])

pub kept_at_edge : (w h x y s : ℕ) → (x ≡ 0) ⊎ ((y ≡ 0) ⊎ ((x + 1 ≡ w) ⊎ (y + 1 ≡ h))) → kept_at_border w h x y s ≡ s
kept_at_edge w h x y s edge = any_of (x == 0) (y == 0) (x + 1 == w) (y + 1 == h) s (elim edge [
  | inl e ↦ inl (eq-eqb x 0 e)
  | inr rest ↦ elim rest [
    | inl e ↦ inr (inl (eq-eqb y 0 e))
    | inr rest' ↦ elim rest' [
      | inl e ↦ inr (inr (inl (eq-eqb (x + 1) w e)))
      | inr e ↦ inr (inr (inr (eq-eqb (y + 1) h e)))
    ]
  ]
])

cleared_inside : (w h x y s : ℕ) → 1 ≤ x → 1 ≤ y → x + 1 < w → y + 1 < h → kept_at_border w h x y s ≡ 0
cleared_inside w h x y s left top right bottom =
    rw (ne_eqb x 0 (λ e. omega arith), ne_eqb y 0 (λ e. omega arith), ne_eqb (x + 1) w (λ e. omega arith), ne_eqb (y + 1) h (λ e. omega arith)) refl

-- the rows above row y are cleared between their ends but for the first, and the others are as they were
pub record RowsCleared (w h y : ℕ) (f g : ℕ → ℕ) : Type 0 where
  pub done : (x v : ℕ) → x < w → v < y → g (v * w + x) ≡ kept_at_border w h x v (f (v * w + x))
  pub rest : (k : ℕ) → y * w ≤ k → g k ≡ f k

pub first_row : (w h : ℕ) (f : ℕ → ℕ) → RowsCleared w h 1 f f
first_row w h f = record { done = λ x v p q. sym (kept_at_edge w h x v (f (v * w + x)) (inr (inl (omega arith)))); rest = λ k from. refl }

pub row_cleared : (w h y start : ℕ) (f g made : ℕ → ℕ) → 2 ≤ w → 1 ≤ y → y + 1 < h → start ≡ y * w → ((i : ℕ) → start + 1 ≤ i → i < start + w - 1 → made i ≡ 0)
    → ((i : ℕ) → (i < start + 1) ⊎ (start + w - 1 ≤ i) → made i ≡ g i) → RowsCleared w h y f g → RowsCleared w h (y + 1) f made
row_cleared w h y start f g made wide down up start_is inside outside before = record {
  done = λ x v p q. elim (cases_lt v y) [
    | inl less ↦
        let le : v + 1 ≤ y = omega arith in
        let ahead : v * w + x < start + 1 = omega (arith, mul-le-mul_left w le) in
        outside (v * w + x) (inl ahead) ∙ before.done x v p less
    | inr from ↦
        let same : v ≡ y = omega arith in
        let at : v * w + x ≡ start + x = ap (λ (t : ℕ). t * w + x) same ∙ ap (λ (t : ℕ). t + x) (sym start_is) in
        let old : g (v * w + x) ≡ f (v * w + x) = before.rest (v * w + x) (omega arith) in
        elim (cases_lt x 1) [
          | inl first ↦ outside (v * w + x) (inl (omega arith)) ∙ old ∙ sym (kept_at_edge w h x v (f (v * w + x)) (inl (omega arith)))
          | inr more ↦ elim (cases_lt (x + 1) w) [
            | inl within ↦ inside (v * w + x) (omega arith) (omega arith) ∙ sym (cleared_inside w h x v (f (v * w + x)) more (omega arith) within (omega arith))
            | inr last ↦ outside (v * w + x) (inr (omega arith)) ∙ old ∙ sym (kept_at_edge w h x v (f (v * w + x)) (inr (inr (inl (omega arith)))))
          ]
        ]
  ];
  rest = λ k from. outside k (inr (omega arith)) ∙ before.rest k (omega arith);
}

pub all_cleared : (w h y : ℕ) (f g : ℕ → ℕ) → h ≤ y + 1 → RowsCleared w h y f g → (x v : ℕ) → x < w → v < h → g (v * w + x) ≡ kept_at_border w h x v (f (v * w + x))
all_cleared w h y f g end cleared x v p q = elim (cases_lt v y) [
  | inl less ↦ cleared.done x v p less
  | inr from ↦
      let le : y * w ≤ v * w + x = omega (arith, mul-le-mul_left w from) in
      cleared.rest (v * w + x) le ∙ sym (kept_at_edge w h x v (f (v * w + x)) (inr (inr (inr (omega arith)))))
]
