-- The extremum of values, by what it is to them.
use Rattle.std.specs.Prelude.{◌≡◌, ℕ, ◌<◌, ◌≤◌}

-- Where merging takes the extremum of two, a value lies below another if merging changes nothing of it. The extremum of the
-- values at the places from a on and before b lies below each of them, and what lies below each of them lies below it.
pub record IsBest {A : Type 0} (merge : A → A → A) (value : ℕ → A) (a b : ℕ) (best : A) : Type 0 where
  pub below : (k : ℕ) → a ≤ k → k < b → merge best (value k) ≡ best
  pub most : (z : A) → ((k : ℕ) → a ≤ k → k < b → merge z (value k) ≡ z) → merge z best ≡ z

-- the extremum of a neutral value and the values at the places from a on and before b, of which there may be none
pub record IsBestWith {A : Type 0} (merge : A → A → A) (n : A) (value : ℕ → A) (a b : ℕ) (best : A) : Type 0 where
  pub near : merge best n ≡ best
  pub below : (k : ℕ) → a ≤ k → k < b → merge best (value k) ≡ best
  pub most : (z : A) → merge z n ≡ z → ((k : ℕ) → a ≤ k → k < b → merge z (value k) ≡ z) → merge z best ≡ z
