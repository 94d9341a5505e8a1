-- The places of each level, from the last to the first: 0 where there is none, else one more than the number of a place.
use Rattle.std.specs.Prelude.{◌≡◌, ℕ, ◌+◌, ◌<◌, ◌≤◌}

-- the last place before number b that has level l
pub record IsLast (levels : ℕ → ℕ) (l b r : ℕ) : Type 0 where
  pub before : r ≤ b
  pub none : (j : ℕ) → r ≤ j → j < b → levels j ≡ l → ⊥
  pub there : (j : ℕ) → j + 1 ≡ r → levels j ≡ l

-- the last of the first n places of each level, and before each of them the last of its own level, of which none is over the top
pub record AreChained (levels : ℕ → ℕ) (top n : ℕ) (heads links : ℕ → ℕ) : Type 0 where
  pub head : (l : ℕ) → l ≤ top → IsLast levels l n (heads l)
  pub link : (i : ℕ) → i < n → IsLast levels (levels i) i (links i)
  pub low : (i : ℕ) → i < n → levels i ≤ top
