-- How often a number stands in a list.
use Rattle.std.proofs.Common.{◌≡◌, ℕ, zero, suc, ◌+◌, ◌<◌, ◌≤◌, Bool, nat_eq, List, [], ◌∷◌, ◌++◌, length, count_by, refl, ap, sym, ◌∙◌, arith, set, get_or}
use Rattle.std.specs.List.{range_with_len, AllByRecursion}
use Rattle.std.proofs.lemmas.Bool.{eq-eqb}
use Rattle.mw_grid.specs.Counts.{bit}
use Rattle.mw_grid.proofs.Counts.{total, total-same, total-more, count-total, count-bit}
use Rattle.mw_ready_queue.specs.Queues.{count_of}

-- a list of numbers below n, each counted
length-total : (n : ℕ) (xs : List ℕ) → AllByRecursion (λ x. x < n) xs → length xs ≡ total (λ t. count_of t xs) 0 n
length-total n [] all = sym (zeros 0 n)
  where
    zeros : (a n : ℕ) → total (λ t. 0) a n ≡ 0
    zeros a zero = refl
    zeros a (suc n) = omega (arith, zeros (a + 1) n)
length-total n (x ∷ xs) all =
    omega (arith, length-total n xs all.1, total-more (λ t. count_of t (x ∷ xs)) (λ t. count_of t xs) x n all.0 (λ t lt. omega (arith, count-bit (λ y. nat_eq t y) x xs)))

pub length-listed : (n : ℕ) (xs : List ℕ) (p : ℕ → Bool) → AllByRecursion (λ x. x < n) xs → ((t : ℕ) → t < n → count_of t xs ≡ bit (p t)) → length xs ≡ count_by p (range_with_len 0 n)
length-listed n xs p all each = length-total n xs all ∙ total-same (λ t. count_of t xs) (λ t. bit (p t)) 0 n (λ t from to. each t (omega arith)) ∙ sym (count-total p 0 n)

-- lists that grow, and lists of which one element is taken
pub count-push : (p : ℕ → Bool) (xs : List ℕ) (x : ℕ) → count_by p (xs ++ x ∷ []) ≡ count_by p xs + bit (p x)
count-push p [] x = omega (arith, count-bit p x [])
count-push p (y ∷ ys) x = omega (arith, count-bit p y (ys ++ x ∷ []), count-bit p y ys, count-push p ys x)

pub all-set : (n : ℕ) (xs : List ℕ) (i v : ℕ) → AllByRecursion (λ y. y < n) xs → v < n → AllByRecursion (λ y. y < n) (set xs i v)
all-set n [] i v all lt = tt
all-set n (x ∷ xs) zero v all lt = (lt, all.1)
all-set n (x ∷ xs) (suc i) v all lt = (all.0, all-set n xs i v all.1 lt)

pub count-has : (xs : List ℕ) (i : ℕ) → i < length xs → 1 ≤ count_of (get_or xs i 0) xs
count-has [] i lt = absurd (omega arith)
count-has (x ∷ xs) zero lt = omega (arith, count-bit (λ y. nat_eq x y) x xs, ap bit (eq-eqb x x refl))
count-has (x ∷ xs) (suc i) lt = omega (arith, count-bit (λ y. nat_eq (get_or xs i 0) y) x xs, count-has xs i (omega arith))
