-- Columns of three samples that were loaded, and rows of medians.
use Rattle.std.proofs.Common.{◌≡◌, ℕ, ◌+◌, ◌-◌, ◌*◌, ◌<◌, ◌≤◌, List, get_or, ap, sym, arith, ◌∙◌, inl, inr, subst}
use Rattle.std.proofs.lemmas.Bool.{cases_lt}
use Rattle.std.specs.Prelude.{nat_le}
use Rattle.mw_rank_medians.specs.Numbered.{below, IsNthLevel}
use Rattle.mw_rank_medians.specs.Columns.{cell_from, column_below, block_below}

-- a level that was loaded is that of a row
cell_is : {A : Type 0} (level : A → ℕ) (d : A) (samples : List A) (from stride r j p a t : ℕ) → p ≡ from + r * stride + j → a ≡ level (get_or samples p d) → below (cell_from level d samples from stride r j) t ≡ below a t
cell_is level d samples from stride r j p a t p-is a-is = ap (λ (v : ℕ). below v t) (ap (λ (q : ℕ). level (get_or samples q d)) (sym p-is) ∙ sym a-is)

pub three_loaded : {A : Type 0} (level : A → ℕ) (d : A) (samples : List A) (from stride j p q r a b c t : ℕ) → p ≡ from + j → q ≡ p + stride → r ≡ q + stride
    → a ≡ level (get_or samples p d) → b ≡ level (get_or samples q d) → c ≡ level (get_or samples r d) → column_below level d samples from stride 3 j t ≡ below a t + below b t + below c t
three_loaded level d samples from stride j p q r a b c t p-is q-is r-is a-is b-is c-is =
    omega (
      arith,
      cell_is level d samples from stride 0 j p a t (omega arith) a-is,
      cell_is level d samples from stride 1 j q b t (omega arith) b-is,
      cell_is level d samples from stride 2 j r c t (omega arith) c-is,
    )

-- three columns beside one another
pub nine_counted : {A : Type 0} (level : A → ℕ) (d : A) (samples : List A) (from stride j at v : ℕ)
    → IsNthLevel (λ t. column_below level d samples from stride 3 (at + j) t + column_below level d samples from stride 3 (at + 1 + j) t + column_below level d samples from stride 3 (at + 2 + j) t) 5 v
    → IsNthLevel (block_below level d samples from stride 3 (at + j)) 5 v
nine_counted level d samples from stride j at v number t =
    number t ∙ ap (nat_le 5) (omega (arith, turned 0 (at + j) (omega arith), turned 1 (at + 1 + j) (omega arith), turned 2 (at + 2 + j) (omega arith)))
  where
    turned : (c p : ℕ) → p ≡ at + j + c → column_below level d samples from stride 3 p t ≡ column_below level d samples from stride 3 (at + j + c) t
    turned c p is = ap (λ (q : ℕ). column_below level d samples from stride 3 q t) is

-- a vector more of a line, which may begin within what is there
pub vector_more : {A : Type 0} (level : A → ℕ) (d : A) (count : ℕ → ℕ → ℕ) (k from done width next : ℕ) (old new : List A) (lane : ℕ → ℕ) → from ≤ done → next ≡ from + width
    → ((i : ℕ) → i < width → level (get_or new (from + i) d) ≡ lane i) → ((p : ℕ) → p < from → get_or new p d ≡ get_or old p d)
    → ((i : ℕ) → i < width → IsNthLevel (count (from + i)) k (lane i)) → ((i : ℕ) → i < done → IsNthLevel (count i) k (level (get_or old i d)))
    → (i : ℕ) → i < next → IsNthLevel (count i) k (level (get_or new i d))
vector_more level d count k from done width next old new lane early next-is put kept made before i lt =
    elim (cases_lt i from) [
      | inl low ↦ subst (λ (v : ℕ). IsNthLevel (count i) k v) (ap level (sym (kept i low))) (before i (omega arith))
      | inr high ↦
          let at : from + (i - from) ≡ i = omega arith in
          subst (λ (p : ℕ). IsNthLevel (count p) k (level (get_or new p d))) at (subst (λ (v : ℕ). IsNthLevel (count (from + (i - from))) k v) (sym (put (i - from) (omega arith))) (made (i - from) (omega arith)))
    ]
