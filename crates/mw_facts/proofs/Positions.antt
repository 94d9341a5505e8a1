-- The number of elements before the first that passes a test.
use Rattle.std.proofs.Common.{◌≡◌, ℕ, zero, suc, ◌+◌, ◌<◌, ◌≤◌, Bool, true, false, cond, not, List, [], ◌∷◌, ◌++◌, length, take, get_or, refl, arith}
use Rattle.std.specs.List.{position_or_len}

more_step : (b : Bool) (n i : ℕ) → suc i ≤ cond (not b) (1 + n) 0 → (i ≤ n → i + 1 ≤ n) → suc i + 1 ≤ cond (not b) (1 + n) 0
more_step true n i h g = absurd (omega arith)
more_step false n i h g = omega (arith, g (omega arith))

here_step : (b : Bool) (n i : ℕ) → suc i ≤ cond (not b) (1 + n) 0 → (i ≤ n → n ≡ i) → cond (not b) (1 + n) 0 ≡ suc i
here_step true n i h g = absurd (omega arith)
here_step false n i h g = omega (arith, g (omega arith))

length_step : (b : Bool) (n m : ℕ) → n ≤ m → cond (not b) (1 + n) 0 ≤ suc m
length_step true n m h = omega arith
length_step false n m h = omega arith

kept_step : (b : Bool) (n m l : ℕ) → cond (not b) (1 + n) 0 < suc l → (n < l → m ≡ n) → cond (not b) (1 + m) 0 ≡ cond (not b) (1 + n) 0
kept_step true n m l h g = refl
kept_step false n m l h g = omega (arith, g (omega arith))

grows_step : (b : Bool) (n m : ℕ) → n ≤ m → cond (not b) (1 + n) 0 ≤ cond (not b) (1 + m) 0
grows_step true n m h = omega arith
grows_step false n m h = omega arith

-- one more that does not pass
pub position_more : (p : ℕ → Bool) (xs : List ℕ) (i : ℕ) → i ≤ position_or_len p xs → i < length xs → p (get_or xs i 0) ≡ false → i + 1 ≤ position_or_len p xs
position_more p [] i h b e = omega arith
position_more p (x ∷ xs) zero h b e = rw e (omega arith)
position_more p (x ∷ xs) (suc i) h b e = more_step (p x) (position_or_len p xs) i h (λ k. position_more p xs i k (omega arith) e)

-- the first that passes
pub position_here : (p : ℕ → Bool) (xs : List ℕ) (i : ℕ) → i ≤ position_or_len p xs → i < length xs → p (get_or xs i 0) ≡ true → position_or_len p xs ≡ i
position_here p [] i h b e = omega arith
position_here p (x ∷ xs) zero h b e = rw e refl
position_here p (x ∷ xs) (suc i) h b e = here_step (p x) (position_or_len p xs) i h (λ k. position_here p xs i k (omega arith) e)

pub position_length : (p : ℕ → Bool) (xs : List ℕ) → position_or_len p xs ≤ length xs
position_length p [] = omega arith
position_length p (x ∷ xs) = length_step (p x) (position_or_len p xs) (length xs) (position_length p xs)

-- what stands after one that passes does not matter
pub position_kept : (p : ℕ → Bool) (xs ys : List ℕ) → position_or_len p xs < length xs → position_or_len p (xs ++ ys) ≡ position_or_len p xs
position_kept p [] ys h = absurd (omega arith)
position_kept p (x ∷ xs) ys h = kept_step (p x) (position_or_len p xs) (position_or_len p (xs ++ ys)) (length xs) h (position_kept p xs ys)

-- more behind never brings it nearer
pub position_grows : (p : ℕ → Bool) (xs ys : List ℕ) → position_or_len p xs ≤ position_or_len p (xs ++ ys)
position_grows p [] ys = omega arith
position_grows p (x ∷ xs) ys = grows_step (p x) (position_or_len p xs) (position_or_len p (xs ++ ys)) (position_grows p xs ys)

-- a front of the list that holds it
pub position_take : (p : ℕ → Bool) (xs : List ℕ) (n : ℕ) → position_or_len p xs < n → position_or_len p (take n xs) ≡ position_or_len p xs
position_take p [] zero h = refl
position_take p [] (suc n) h = refl
position_take p (x ∷ xs) zero h = absurd (omega arith)
position_take p (x ∷ xs) (suc n) h = kept_step (p x) (position_or_len p xs) (position_or_len p (take n xs)) n h (position_take p xs n)
