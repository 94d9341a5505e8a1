-- Blocks of columns in rows of results.
use Rattle.std.proofs.Common.{◌≡◌, ◌⊎◌, ℕ, ◌+◌, ◌*◌, ◌<◌, ◌≤◌, List, get_or, ap, sym, subst, arith, inl, inr}
use Rattle.std.proofs.lemmas.Bool.{cases_lt}
use Rattle.mw_line_lent.specs.Boxes.{IsPutAt, IsPutInRows}
use Rattle.mw_offset_lent.proofs.Puts.{rows_le}

next : (a m : ℕ) → (a + 1) * m ≡ a * m + m
next a m = omega arith

-- a place of a row that lies beside some columns lies beside them in each row
pub beside_columns : (w at from m r i q : ℕ) → from + m ≤ w → i < w → (i < from) ⊎ (from + m ≤ i) → (at + (r * w + i) < at + from + q * w) ⊎ (at + from + q * w + m ≤ at + (r * w + i))
beside_columns w at from m r i q fits lt out = elim (cases_lt q r) [
  | inl above ↦
      let more = rows_le (q + 1) r w (omega (arith, above)) in
      inr (omega (arith, more, next q w, fits))
  | inr not_above ↦ elim (cases_lt r q) [
    | inl below ↦
        let more = rows_le (r + 1) q w (omega (arith, below)) in
        inl (omega (arith, more, next r w, lt))
    | inr not_below ↦
        let same : q * w ≡ r * w = ap (λ (t : ℕ). t * w) (let e : q ≡ r = omega (arith, not_above, not_below) in e) in
        elim out [
          | inl low ↦ inl (omega (arith, low, same))
          | inr high ↦ inr (omega (arith, high, same))
        ]
  ]
]

-- some columns of rows are cells of these rows
pub columns_put : {A : Type 0} (rows at from n w : ℕ) (mid new : List A) → from + n ≤ w → IsPutInRows rows (at + from) n w mid new → IsPutAt at (rows * w) mid new
columns_put rows at from n w mid new fits put = record {
  size = put.size;
  before = λ p d lt. put.kept p d (λ r less. inl (omega (arith, lt)));
  behind = λ p d le. put.kept p d (λ r less. let more = rows_le (r + 1) rows w (omega (arith, less)) in inr (omega (arith, le, more, next r w, fits)));
}

-- a block below those that were written
pub blocks_on : {A : Type 0} (Q : ℕ → ℕ → A → Type 0) (d : A) (at n apart r : ℕ) (mid new : List A) → n ≤ apart → IsPutAt (at + r * apart) n mid new → ((i : ℕ) → i < n → Q r i (get_or new (at + r * apart + i) d))
    → ((j i : ℕ) → j < r → i < n → Q j i (get_or mid (at + j * apart + i) d)) → (j i : ℕ) → j < r + 1 → i < n → Q j i (get_or new (at + j * apart + i) d)
blocks_on Q d at n apart r mid new fits put is before j i lt across = elim (cases_lt j r) [
  | inl low ↦
      let more = rows_le (j + 1) r apart (omega (arith, low)) in
      subst (Q j i) (sym (put.before (at + j * apart + i) d (omega (arith, more, next j apart, fits, across)))) (before j i low across)
  | inr high ↦
      let here : r ≡ j = omega (arith, high, lt) in
      subst (λ (t : ℕ). Q t i (get_or new (at + t * apart + i) d)) here (is i across)
]
