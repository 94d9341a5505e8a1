-- A forest of numbers, seen by what it says of colourings: a colouring respects it where each number has the colour of its parent. So numbers of one class are those that each such colouring gives one colour.
use Rattle.std.specs.Prelude.{◌≡◌, ℕ, ◌+◌, ◌<◌, ◌≤◌, List, length, slice_index}

-- no parent is greater
pub record IsForest (parent : List ℕ) : Type 0 where
  pub lower : (i : ℕ) → i < length parent → slice_index parent i ≤ i

-- each number has the colour of its parent
pub record Respects (parent : List ℕ) (f : ℕ → ℕ) : Type 0 where
  pub same : (i : ℕ) → i < length parent → f (slice_index parent i) ≡ f i

-- each number is a root
pub record AllAlone (parent : List ℕ) : Type 0 where
  pub own : (i : ℕ) → i < length parent → slice_index parent i ≡ i

-- both have the same classes
pub record HasSameColours (old new : List ℕ) : Type 0 where
  pub back : (f : ℕ → ℕ) → Respects new f → Respects old f
  pub on : (f : ℕ → ℕ) → Respects old f → Respects new f

-- of the new classes one is that of a and that of b
pub record HasJoined (old : List ℕ) (a b : ℕ) (new : List ℕ) : Type 0 where
  pub back : (f : ℕ → ℕ) → Respects new f → Respects old f
  pub one : (f : ℕ → ℕ) → Respects new f → f a ≡ f b
  pub on : (f : ℕ → ℕ) → Respects old f → f a ≡ f b → Respects new f

-- the same, where something holds, and else nothing changed
pub record HasJoinedIf (Needed : Type 0) (old : List ℕ) (a b : ℕ) (new : List ℕ) : Type 0 where
  pub back : (f : ℕ → ℕ) → Respects new f → Respects old f
  pub one : (f : ℕ → ℕ) → Respects new f → Needed → f a ≡ f b
  pub on : (f : ℕ → ℕ) → Respects old f → (Needed → f a ≡ f b) → Respects new f

-- the place of a number in a list, before number k
pub record StandsBefore (numbers : List ℕ) (k n : ℕ) : Type 0 where
  pub at : ℕ
  pub before : at < k
  pub is : slice_index numbers at ≡ n

-- The first n numbers are those of their classes, which are counted by their roots; the others are parents still.
pub record NumbersClasses (parent : List ℕ) (n : ℕ) (numbers : List ℕ) (count : ℕ) : Type 0 where
  pub size : length numbers ≡ length parent
  pub rest : (i : ℕ) → n ≤ i → slice_index numbers i ≡ slice_index parent i
  pub same : (i : ℕ) → i < n → slice_index numbers (slice_index parent i) ≡ slice_index numbers i
  pub some : (i : ℕ) → i < n → 1 ≤ slice_index numbers i
  pub most : (i : ℕ) → i < n → slice_index numbers i ≤ count
  pub fresh : (i j : ℕ) → i < n → slice_index parent i ≡ i → j < i → slice_index numbers j < slice_index numbers i
  pub steps : (i : ℕ) → i < n → 2 ≤ slice_index numbers i → (k : ℕ) → k + 1 ≡ slice_index numbers i → StandsBefore numbers i k
  pub top : 1 ≤ count → StandsBefore numbers n count
  pub few : count ≤ n
