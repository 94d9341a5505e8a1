-- Numbers of a row, and how they are lowered to one more than those near them.
use Rattle.std.specs.Prelude.{◌≡◌, ◌⊎◌, ℕ, ◌+◌, ◌<◌, ◌≤◌, ◌==◌, if◌then◌else◌, List, min, slice_index}

-- the numbers of a list by their places
abbrev pub distance_at : List ℕ → ℕ → ℕ
distance_at numbers i = slice_index numbers i

-- a pixel of the set begins with the top, and one outside with 0
abbrev pub begin_of_bit : ℕ → ℕ → ℕ
begin_of_bit top bit = if bit == 1 then top else 0

-- each number of n is the lesser of the one before, and one more than that of the other row
abbrev pub IsLoweredStraight : ℕ → (ℕ → ℕ) → (ℕ → ℕ) → (ℕ → ℕ) → Type 0
IsLoweredStraight n other old new = (x : ℕ) → x < n → new x ≡ min (old x) (other x + 1)

-- the same by the column before in the other row
pub record IsLoweredFromLeft (n : ℕ) (other old new : ℕ → ℕ) : Type 0 where
  pub first : new 0 ≡ old 0
  pub along : (u x : ℕ) → u + 1 ≡ x → x < n → new x ≡ min (old x) (other u + 1)

-- the same by the column behind in the other row
pub record IsLoweredFromRight (n : ℕ) (other old new : ℕ → ℕ) : Type 0 where
  pub last : (x : ℕ) → x + 1 ≡ n → new x ≡ old x
  pub along : (x u : ℕ) → x + 1 ≡ u → u < n → new x ≡ min (old x) (other u + 1)

-- one more than the number of a column of the other row that is near column x
pub record IsFrom (reach n : ℕ) (other : ℕ → ℕ) (x s : ℕ) : Type 0 where
  pub column : ℕ
  pub within : column < n
  pub left : x ≤ column + reach
  pub right : column ≤ x + reach
  pub is : s ≡ other column + 1

-- each number of n is lowered to one more than the least of those near it in the other row
pub record IsPulled (reach n : ℕ) (other old new : ℕ → ℕ) : Type 0 where
  pub less : (x : ℕ) → x < n → new x ≤ old x
  pub across : (x u : ℕ) → x < n → u < n → x ≤ u + reach → u ≤ x + reach → new x ≤ other u + 1
  pub reason : (x : ℕ) → x < n → (new x ≡ old x) ⊎ IsFrom reach n other x (new x)

-- each number from the left on is lowered to one more than the one before it
pub record IsRunRight (n : ℕ) (old new : ℕ → ℕ) : Type 0 where
  pub first : new 0 ≡ old 0
  pub along : (u x : ℕ) → u + 1 ≡ x → x < n → new x ≡ min (old x) (new u + 1)

-- each number from the right on is lowered to one more than the one behind it
pub record IsRunLeft (n : ℕ) (old new : ℕ → ℕ) : Type 0 where
  pub last : (x : ℕ) → x + 1 ≡ n → new x ≡ old x
  pub along : (x u : ℕ) → x + 1 ≡ u → u < n → new x ≡ min (old x) (new u + 1)

-- one more than the number of the column before
pub record IsAfter (new : ℕ → ℕ) (x : ℕ) : Type 0 where
  pub column : ℕ
  pub next : column + 1 ≡ x
  pub is : new x ≡ new column + 1

-- one more than the number of the column behind
pub record IsOneOverNext (n : ℕ) (new : ℕ → ℕ) (x : ℕ) : Type 0 where
  pub column : ℕ
  pub next : x + 1 ≡ column
  pub within : column < n
  pub is : new x ≡ new column + 1

-- lowered by the other row, and then from the left
pub record IsStepRight (reach n : ℕ) (other old new : ℕ → ℕ) : Type 0 where
  pub less : (x : ℕ) → x < n → new x ≤ old x
  pub along : (u x : ℕ) → u + 1 ≡ x → x < n → new x ≤ new u + 1
  pub across : (x u : ℕ) → x < n → u < n → x ≤ u + reach → u ≤ x + reach → new x ≤ other u + 1
  pub reason : (x : ℕ) → x < n → (new x ≡ old x) ⊎ (IsAfter new x ⊎ IsFrom reach n other x (new x))

-- lowered by the other row, and then from the right
pub record IsStepLeft (reach n : ℕ) (other old new : ℕ → ℕ) : Type 0 where
  pub less : (x : ℕ) → x < n → new x ≤ old x
  pub along : (x u : ℕ) → x + 1 ≡ u → u < n → new x ≤ new u + 1
  pub across : (x u : ℕ) → x < n → u < n → x ≤ u + reach → u ≤ x + reach → new x ≤ other u + 1
  pub reason : (x : ℕ) → x < n → (new x ≡ old x) ⊎ (IsOneOverNext n new x ⊎ IsFrom reach n other x (new x))

-- the numbers from one place up to another have their values, and the others are as they were
pub record IsRewritten (from to : ℕ) (value old row : ℕ → ℕ) : Type 0 where
  pub done : (k : ℕ) → from ≤ k → k < to → row k ≡ value k
  pub before : (k : ℕ) → k < from → row k ≡ old k
  pub rest : (k : ℕ) → to ≤ k → row k ≡ old k
