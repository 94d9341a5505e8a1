-- A forest of numbers, each with a parent that is no greater, and the function that gives each number its root.
use Rattle.std.specs.Prelude.{◌≡◌, ℕ, ◌<◌, ◌≤◌, ◌==◌, List, length, slice_index, if◌then◌else◌}

-- no parent is greater
pub record IsParentForest (parent : List ℕ) : Type 0 where
  pub lower : (i : ℕ) → i < length parent → slice_index parent i ≤ i

-- each number is a root
pub record EachByItself (parent : List ℕ) : Type 0 where
  pub own : (i : ℕ) → i < length parent → slice_index parent i ≡ i

-- the function gives each number its root
pub record AreRoots (parent : List ℕ) (c : ℕ → ℕ) : Type 0 where
  pub low : (i : ℕ) → i < length parent → c i ≤ i
  pub root : (i : ℕ) → i < length parent → slice_index parent (c i) ≡ c i
  pub own : (i : ℕ) → i < length parent → slice_index parent i ≡ i → c i ≡ i
  pub up : (i : ℕ) → i < length parent → c (slice_index parent i) ≡ c i

-- whatever function gives roots in the first forest, gives them in the second
abbrev pub KeepsRoots : List ℕ → List ℕ → Type 0
KeepsRoots old new = (c : ℕ → ℕ) → AreRoots old c → AreRoots new c

-- the roots where r has become that of the numbers whose root was s
abbrev pub merged : (ℕ → ℕ) → ℕ → ℕ → ℕ → ℕ
merged c r s i = if c i == s then r else c i
