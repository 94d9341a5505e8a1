-- Samples that are written among others.
use Rattle.std.proofs.Common.{◌≡◌, ◌⊎◌, ℕ, ◌+◌, ◌-◌, ◌*◌, ◌<◌, ◌≤◌, List, get_or, refl, sym, subst, arith, ◌∙◌, inl, inr}
use Rattle.std.specs.List.{AllByRecursion}
use Rattle.std.proofs.lemmas.Bool.{cases_lt}
use Rattle.std.proofs.lemmas.Nat.{mul-le}
use Rattle.mw_model.proofs.mw_facts.Alls.{all-weaker}
use Rattle.mw_line_lent.specs.Boxes.{IsPutAt, IsPutInRows}

pub rows_le : (a b w : ℕ) → a ≤ b → a * w ≤ b * w
rows_le a b w le = mul-le a w b w le (omega arith)

pub put_none : {A : Type 0} (at n : ℕ) (out : List A) → IsPutAt at n out out
put_none at n out = record { size = refl; before = λ p d lt. refl; behind = λ p d le. refl }

-- some of the cells were written
pub put_part : {A : Type 0} (at n a m : ℕ) (old mid new : List A) → at ≤ a → a + m ≤ at + n → IsPutAt at n old mid → IsPutAt a m mid new → IsPutAt at n old new
put_part at n a m old mid new from to first last = record {
  size = last.size ∙ first.size;
  before = λ p d lt. last.before p d (omega (arith, lt, from)) ∙ first.before p d lt;
  behind = λ p d le. last.behind p d (omega (arith, le, to)) ∙ first.behind p d le;
}

-- more cells behind those that were written, which may begin within them
pub put_on : {A : Type 0} (Q : ℕ → A → Type 0) (d : A) (at done from m : ℕ) (mid new : List A) → from ≤ done → IsPutAt (at + from) m mid new → ((i : ℕ) → i < m → Q (from + i) (get_or new (at + from + i) d))
    → ((i : ℕ) → i < done → Q i (get_or mid (at + i) d)) → (i : ℕ) → i < from + m → Q i (get_or new (at + i) d)
put_on Q d at done from m mid new early put is before i lt = elim (cases_lt i from) [
  | inl low ↦ subst (Q i) (sym (put.before (at + i) d (omega (arith, low)))) (before i (omega (arith, low, early)))
  | inr high ↦
      let here : from + (i - from) ≡ i = omega (arith, high) in
      let place : at + from + (i - from) ≡ at + i = omega (arith, high) in
      subst (λ (t : ℕ). Q t (get_or new (at + i) d)) here (subst (λ (t : ℕ). Q (from + (i - from)) (get_or new t d)) place (is (i - from) (omega (arith, high, lt))))
]

pub in_rows_none : {A : Type 0} (rows at n w : ℕ) (out : List A) → IsPutInRows rows at n w out out
in_rows_none rows at n w out = record { size = refl; kept = λ p d out_of. refl }

-- one of the rows was written
pub in_rows_one : {A : Type 0} (rows at n w r a : ℕ) (old mid new : List A) → r < rows → a ≡ at + r * w → IsPutInRows rows at n w old mid → IsPutAt a n mid new → IsPutInRows rows at n w old new
in_rows_one rows at n w r a old mid new lt a-is before put = record {
  size = put.size ∙ before.size;
  kept = λ p d out_of. elim (out_of r lt) [
    | inl low ↦ put.before p d (omega (arith, low, a-is)) ∙ before.kept p d out_of
    | inr high ↦ put.behind p d (omega (arith, high, a-is)) ∙ before.kept p d out_of
  ];
}

-- some columns of the rows were written
pub in_rows_part : {A : Type 0} (rows at n w from m : ℕ) (old mid new : List A) → from + m ≤ n → IsPutInRows rows at n w old mid → IsPutInRows rows (at + from) m w mid new → IsPutInRows rows at n w old new
in_rows_part rows at n w from m old mid new fits before put = record {
  size = put.size ∙ before.size;
  kept = λ p d out_of. put.kept p d (λ r lt. elim (out_of r lt) [
    | inl low ↦ inl (omega (arith, low))
    | inr high ↦ inr (omega (arith, high, fits))
  ]) ∙ before.kept p d out_of;
}

-- a place in a row and before the columns from `from` on lies in none of those
pub in_rows_before : (w at from m n r i q : ℕ) → from + m ≤ n → n ≤ w → i < from → (at + r * w + i < at + from + q * w) ⊎ (at + from + q * w + m ≤ at + r * w + i)
in_rows_before w at from m n r i q fits le early = elim (cases_lt q r) [
  | inl above ↦
      let more = rows_le (q + 1) r w (omega (arith, above)) in
      inr (omega (arith, more, next q w, fits, le))
  | inr below ↦
      let more = rows_le r q w below in
      inl (omega (arith, more, early))
]
  where
    next : (a m : ℕ) → (a + 1) * m ≡ a * m + m
    next a m = omega arith

-- columns of the rows behind those that were written, which may begin within them
pub in_rows_on : {A : Type 0} (Q : ℕ → ℕ → A → Type 0) (d : A) (rows at n w done from m : ℕ) (mid new : List A) → from ≤ done → from + m ≤ n → n ≤ w → IsPutInRows rows (at + from) m w mid new
    → ((r i : ℕ) → r < rows → i < m → Q r (from + i) (get_or new (at + from + r * w + i) d)) → ((r i : ℕ) → r < rows → i < done → Q r i (get_or mid (at + r * w + i) d)) → (r i : ℕ) → r < rows → i < from + m → Q r i (get_or new (at + r * w + i) d)
in_rows_on Q d rows at n w done from m mid new early fits le put is before r i lt less = elim (cases_lt i from) [
  | inl low ↦ subst (Q r i) (sym (put.kept (at + r * w + i) d (λ q q-lt. in_rows_before w at from m n r i q fits le low))) (before r i lt (omega (arith, low, early)))
  | inr high ↦
      let here : from + (i - from) ≡ i = omega (arith, high) in
      let place : at + from + r * w + (i - from) ≡ at + r * w + i = omega (arith, high) in
      subst (λ (t : ℕ). Q r t (get_or new (at + r * w + i) d)) here (subst (λ (t : ℕ). Q r (from + (i - from)) (get_or new t d)) place (is r (i - from) lt (omega (arith, high, less))))
]

next : (a m : ℕ) → (a + 1) * m ≡ a * m + m
next a m = omega arith

-- a block below those that were written
pub blocks_on : {A : Type 0} (Q : ℕ → ℕ → A → Type 0) (d : A) (at n apart r : ℕ) (mid new : List A) → n ≤ apart → IsPutAt (at + r * apart) n mid new → ((i : ℕ) → i < n → Q r i (get_or new (at + r * apart + i) d))
    → ((j i : ℕ) → j < r → i < n → Q j i (get_or mid (at + j * apart + i) d)) → (j i : ℕ) → j < r + 1 → i < n → Q j i (get_or new (at + j * apart + i) d)
blocks_on Q d at n apart r mid new fits put is before j i lt across = elim (cases_lt j r) [
  | inl low ↦
      let more = rows_le (j + 1) r apart (omega (arith, low)) in
      subst (Q j i) (sym (put.before (at + j * apart + i) d (omega (arith, more, next j apart, fits, across)))) (before j i low across)
  | inr high ↦
      let here : r ≡ j = omega (arith, high, lt) in
      subst (λ (t : ℕ). Q t i (get_or new (at + t * apart + i) d)) here (is i across)
]

pub both_lanes : {A : Type 0} (w : ℕ) (Q : ℕ → A → Type 0) (d : A) (at : ℕ) (out : List A) → ((i : ℕ) → i < w → Q i (get_or out (at + i) d)) → ((i : ℕ) → i < w → Q (w + i) (get_or out (at + w + i) d)) → (i : ℕ) → i < 2 * w → Q i (get_or out (at + i) d)
both_lanes w Q d at out first second i lt = elim (cases_lt i w) [
  | inl low ↦ first i low
  | inr high ↦
      let here : w + (i - w) ≡ i = omega (arith, high) in
      let there : at + w + (i - w) ≡ at + i = omega (arith, high) in
      subst (λ (t : ℕ). Q t (get_or out (at + i) d)) here (subst (λ (t : ℕ). Q (w + (i - w)) (get_or out t d)) there (second (i - w) (omega (arith, lt, high))))
]

pub all_fit : (all : List ℕ) (n m size : ℕ) → n ≤ m → AllByRecursion (λ p. p + m ≤ size) all → AllByRecursion (λ p. p + n ≤ size) all
all_fit all n m size le fits = all-weaker (λ p. p + m ≤ size) (λ p. p + n ≤ size) all (λ p there. omega (arith, there, le)) fits
