-- What a count of nothing says of a list.
use Rattle.std.proofs.Common.{◌≡◌, ℕ, zero, suc, ◌+◌, ◌<◌, ◌≤◌, Bool, true, false, not, ◌&&◌, ◌||◌, nat_eq, nat_lt, List, [], ◌∷◌, count_by, refl, ap, sym, ◌∙◌, arith}
use Rattle.std.specs.List.{range_with_len, list_all, list_any}
use Rattle.std.proofs.lemmas.Bool.{ne_eqb, lt-ltb}
use Rattle.mw_grid.specs.Counts.{bit}
use Rattle.mw_grid.proofs.Counts.{count-bit}

-- nothing of what is read is left
pub list_all-count : (p f : ℕ → Bool) (xs : List ℕ) → list_all (λ u. not (p u) || f u) xs ≡ nat_eq (count_by (λ u. p u && not (f u)) xs) 0
list_all-count p f [] = refl
list_all-count p f (x ∷ xs) = go (p x) (f x) (list_all (λ u. not (p u) || f u) xs) (count_by (λ u. p u && not (f u)) xs) (count_by (λ u. p u && not (f u)) (x ∷ xs)) (list_all-count p f xs) (count-bit (λ u. p u && not (f u)) x xs)
  where
    some : (k : ℕ) → 1 ≤ k → false ≡ nat_eq k 0
    some k le = sym (ne_eqb k 0 (λ e. absurd (omega arith)))

    go : (a b rest : Bool) (n m : ℕ) → rest ≡ nat_eq n 0 → m ≡ bit (a && not b) + n → (not a || b) && rest ≡ nat_eq m 0
    go true true rest n m e f = e ∙ ap (λ (k : ℕ). nat_eq k 0) (let h : n ≡ m = omega arith in h)
    go true false rest n m e f = some m (omega arith)
    go false true rest n m e f = e ∙ ap (λ (k : ℕ). nat_eq k 0) (let h : n ≡ m = omega arith in h)
    go false false rest n m e f = e ∙ ap (λ (k : ℕ). nat_eq k 0) (let h : n ≡ m = omega arith in h)

-- something is left
pub list_any-count : (p f : ℕ → Bool) (xs : List ℕ) → list_any (λ u. not (f u) && p u) xs ≡ nat_lt 0 (count_by (λ u. p u && not (f u)) xs)
list_any-count p f [] = refl
list_any-count p f (x ∷ xs) = go (p x) (f x) (list_any (λ u. not (f u) && p u) xs) (count_by (λ u. p u && not (f u)) xs) (count_by (λ u. p u && not (f u)) (x ∷ xs)) (list_any-count p f xs) (count-bit (λ u. p u && not (f u)) x xs)
  where
    go : (a b rest : Bool) (n m : ℕ) → rest ≡ nat_lt 0 n → m ≡ bit (a && not b) + n → (not b && a) || rest ≡ nat_lt 0 m
    go true true rest n m e f = e ∙ ap (nat_lt 0) (let h : n ≡ m = omega arith in h)
    go true false rest n m e f = sym (lt-ltb 0 m (omega arith))
    go false true rest n m e f = e ∙ ap (nat_lt 0) (let h : n ≡ m = omega arith in h)
    go false false rest n m e f = e ∙ ap (nat_lt 0) (let h : n ≡ m = omega arith in h)

pub all-same : (p q : ℕ → Bool) (n : ℕ) → ((t : ℕ) → t < n → p t ≡ q t) → list_all p (range_with_len 0 n) ≡ list_all q (range_with_len 0 n)
all-same p q n same = go 0 n (λ t from to. same t (omega arith))
  where
    go : (a n : ℕ) → ((t : ℕ) → a ≤ t → t < a + n → p t ≡ q t) → list_all p (range_with_len a n) ≡ list_all q (range_with_len a n)
    go a zero same = refl
    go a (suc n) same = ap (λ (b : Bool). b && list_all p (range_with_len (a + 1) n)) (same a (omega arith) (omega arith)) ∙ ap (λ (b : Bool). q a && b) (go (a + 1) n (λ t from to. same t (omega arith) (omega arith)))
