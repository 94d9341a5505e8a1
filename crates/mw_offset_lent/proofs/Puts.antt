-- Cells that are written one after another, of each of which something holds.
use Rattle.std.proofs.Common.{◌≡◌, ◌⊎◌, ℕ, ◌+◌, ◌-◌, ◌*◌, ◌<◌, ◌≤◌, List, get_or, refl, ap, sym, subst, arith, ◌∙◌, inl, inr, get_or-set_other}
use Rattle.std.specs.Prelude.{slice_set}
use Rattle.std.proofs.lemmas.Bool.{cases_lt}
use Rattle.std.proofs.lemmas.List.{length-set}
use Rattle.std.proofs.lemmas.Nat.{mul-add-lt, mul-le}
use Rattle.mw_line_lent.specs.Boxes.{IsPutAt, IsPutInRows}

pub rows_le : (a b w : ℕ) → a ≤ b → a * w ≤ b * w
rows_le a b w le = mul-le a w b w le (omega arith)

pub put_none : {A : Type 0} (at n : ℕ) (out : List A) → IsPutAt at n out out
put_none at n out = record { size = refl; before = λ p d lt. refl; behind = λ p d le. refl }

-- some of the cells were written
pub put_part : {A : Type 0} (at n a m : ℕ) (old mid new : List A) → at ≤ a → a + m ≤ at + n → IsPutAt at n old mid → IsPutAt a m mid new → IsPutAt at n old new
put_part at n a m old mid new from to first last = record {
  size = last.size ∙ first.size;
  before = λ p d lt. last.before p d (omega (arith, lt, from)) ∙ first.before p d lt;
  behind = λ p d le. last.behind p d (omega (arith, le, to)) ∙ first.behind p d le;
}

pub put_longer : {A : Type 0} (at n m : ℕ) (old new : List A) → n ≤ m → IsPutAt at n old new → IsPutAt at m old new
put_longer at n m old new le put = record { size = put.size; before = put.before; behind = λ p d from. put.behind p d (omega (arith, from, le)) }

-- more cells behind those that were written, which may begin within them
pub put_on : {A : Type 0} (Q : ℕ → A → Type 0) (d : A) (at done from m : ℕ) (mid new : List A) → from ≤ done → IsPutAt (at + from) m mid new → ((i : ℕ) → i < m → Q (from + i) (get_or new (at + from + i) d))
    → ((i : ℕ) → i < done → Q i (get_or mid (at + i) d)) → (i : ℕ) → i < from + m → Q i (get_or new (at + i) d)
put_on Q d at done from m mid new early put is before i lt = elim (cases_lt i from) [
  | inl low ↦ subst (Q i) (sym (put.before (at + i) d (omega (arith, low)))) (before i (omega (arith, low, early)))
  | inr high ↦
      let here : from + (i - from) ≡ i = omega (arith, high) in
      let place : at + from + (i - from) ≡ at + i = omega (arith, high) in
      subst (λ (t : ℕ). Q t (get_or new (at + i) d)) here (subst (λ (t : ℕ). Q (from + (i - from)) (get_or new t d)) place (is (i - from) (omega (arith, high, lt))))
]

-- one cell
pub put_set : {A : Type 0} (out : List A) (p : ℕ) (s : A) → IsPutAt p 1 out (slice_set out p s)
put_set out p s = record {
  size = length-set out p s;
  before = λ q d lt. get_or-set_other out p q s d (omega (arith, lt));
  behind = λ q d le. get_or-set_other out p q s d (omega (arith, le));
}

-- a row behind those that were written
pub row_on : {A : Type 0} (Q : ℕ → ℕ → A → Type 0) (d : A) (at w r : ℕ) (mid new : List A) → IsPutAt (at + r * w) w mid new → ((i : ℕ) → i < w → Q r i (get_or new (at + r * w + i) d))
    → ((j i : ℕ) → j < r → i < w → Q j i (get_or mid (at + (j * w + i)) d)) → (j i : ℕ) → j < r + 1 → i < w → Q j i (get_or new (at + (j * w + i)) d)
row_on Q d at w r mid new put is before j i lt across = elim (cases_lt j r) [
  | inl low ↦ subst (Q j i) (sym (put.before (at + (j * w + i)) d (omega (arith, mul-add-lt j w i r low across)))) (before j i low across)
  | inr high ↦
      let here : r ≡ j = omega (arith, high, lt) in
      let place : at + r * w + i ≡ at + (r * w + i) = omega arith in
      subst (λ (t : ℕ). Q t i (get_or new (at + (t * w + i)) d)) here (subst (λ (t : ℕ). Q r i (get_or new t d)) place (is i across))
]

-- some rows behind those that were written
pub rows_on : {A : Type 0} (Q : ℕ → ℕ → A → Type 0) (d : A) (w done m : ℕ) (mid new : List A) → IsPutAt (done * w) (m * w) mid new → ((r i : ℕ) → r < m → i < w → Q i (done + r) (get_or new (done * w + (r * w + i)) d))
    → ((x y : ℕ) → x < w → y < done → Q x y (get_or mid (y * w + x) d)) → (x y : ℕ) → x < w → y < done + m → Q x y (get_or new (y * w + x) d)
rows_on Q d w done m mid new put is before x y across lt = elim (cases_lt y done) [
  | inl low ↦ subst (Q x y) (sym (put.before (y * w + x) d (omega (arith, mul-add-lt y w x done low across)))) (before x y across low)
  | inr high ↦
      let here : done + (y - done) ≡ y = omega (arith, high) in
      let place : done * w + ((y - done) * w + x) ≡ y * w + x = omega (arith, split done (y - done) w, ap (λ (t : ℕ). t * w) here) in
      subst (λ (t : ℕ). Q x t (get_or new (y * w + x) d)) here (subst (λ (t : ℕ). Q x (done + (y - done)) (get_or new t d)) place (is (y - done) x (omega (arith, high, lt)) across))
]
  where
    split : (a b w : ℕ) → (a + b) * w ≡ a * w + b * w
    split a b w = omega arith

pub in_rows_none : {A : Type 0} (rows at n w : ℕ) (out : List A) → IsPutInRows rows at n w out out
in_rows_none rows at n w out = record { size = refl; kept = λ p d out_of. refl }

-- one of the rows was written
pub in_rows_one : {A : Type 0} (rows at n w r a : ℕ) (old mid new : List A) → r < rows → a ≡ at + r * w → IsPutInRows rows at n w old mid → IsPutAt a n mid new → IsPutInRows rows at n w old new
in_rows_one rows at n w r a old mid new lt a-is before put = record {
  size = put.size ∙ before.size;
  kept = λ p d out_of. elim (out_of r lt) [
    | inl low ↦ put.before p d (omega (arith, low, a-is)) ∙ before.kept p d out_of
    | inr high ↦ put.behind p d (omega (arith, high, a-is)) ∙ before.kept p d out_of
  ];
}

-- the rows were written twice
pub in_rows_twice : {A : Type 0} (rows at n w : ℕ) (old mid new : List A) → IsPutInRows rows at n w old mid → IsPutInRows rows at n w mid new → IsPutInRows rows at n w old new
in_rows_twice rows at n w old mid new first last = record { size = last.size ∙ first.size; kept = λ p d out_of. last.kept p d out_of ∙ first.kept p d out_of }

-- some columns of the rows were written
pub in_rows_part : {A : Type 0} (rows at n w from m : ℕ) (old mid new : List A) → from + m ≤ n → IsPutInRows rows at n w old mid → IsPutInRows rows (at + from) m w mid new → IsPutInRows rows at n w old new
in_rows_part rows at n w from m old mid new fits before put = record {
  size = put.size ∙ before.size;
  kept = λ p d out_of. put.kept p d (λ r lt. elim (out_of r lt) [
    | inl low ↦ inl (omega (arith, low))
    | inr high ↦ inr (omega (arith, high, fits))
  ]) ∙ before.kept p d out_of;
}

-- a place in a row and before the columns from `from` on lies in none of those
pub in_rows_before : (w at from m n r i q : ℕ) → from + m ≤ n → n ≤ w → i < from → (at + r * w + i < at + from + q * w) ⊎ (at + from + q * w + m ≤ at + r * w + i)
in_rows_before w at from m n r i q fits le early = elim (cases_lt q r) [
  | inl above ↦
      let more = rows_le (q + 1) r w (omega (arith, above)) in
      inr (omega (arith, more, next q w, fits, le))
  | inr below ↦
      let more = rows_le r q w below in
      inl (omega (arith, more, early))
]
  where
    next : (a m : ℕ) → (a + 1) * m ≡ a * m + m
    next a m = omega arith

-- columns of the rows behind those that were written, which may begin within them
pub in_rows_on : {A : Type 0} (Q : ℕ → ℕ → A → Type 0) (d : A) (rows at n w done from m : ℕ) (mid new : List A) → from ≤ done → from + m ≤ n → n ≤ w → IsPutInRows rows (at + from) m w mid new
    → ((r i : ℕ) → r < rows → i < m → Q r (from + i) (get_or new (at + from + r * w + i) d)) → ((r i : ℕ) → r < rows → i < done → Q r i (get_or mid (at + r * w + i) d)) → (r i : ℕ) → r < rows → i < from + m → Q r i (get_or new (at + r * w + i) d)
in_rows_on Q d rows at n w done from m mid new early fits le put is before r i lt less = elim (cases_lt i from) [
  | inl low ↦ subst (Q r i) (sym (put.kept (at + r * w + i) d (λ q q-lt. in_rows_before w at from m n r i q fits le low))) (before r i lt (omega (arith, low, early)))
  | inr high ↦
      let here : from + (i - from) ≡ i = omega (arith, high) in
      let place : at + from + r * w + (i - from) ≡ at + r * w + i = omega (arith, high) in
      subst (λ (t : ℕ). Q r t (get_or new (at + r * w + i) d)) here (subst (λ (t : ℕ). Q r (from + (i - from)) (get_or new t d)) place (is r (i - from) lt (omega (arith, high, less))))
]
