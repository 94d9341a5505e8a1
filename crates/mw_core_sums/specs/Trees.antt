-- A binary tree in a list: node q has the nodes 2q and 2q + 1 below it, and the leaves stand last; no public contract speaks of it.
use Rattle.std.specs.Prelude.{◌≡◌, ℕ, zero, suc, ◌+◌, ◌*◌, ◌<◌, ◌≤◌, ◌^◌, List, length, take, drop, slice_index}

-- n values of a list from place a on, summed
abbrev pub span_sum : List ℕ → ℕ → ℕ → ℕ
span_sum t a zero = 0
span_sum t a (suc n) = span_sum t a n + slice_index t (a + n)

-- the node is the sum of the two below it
abbrev pub IsSum : List ℕ → ℕ → Type 0
IsSum t q = slice_index t q ≡ slice_index t (2 * q) + slice_index t (2 * q + 1)

-- it is a power of two
pub record IsPower (n : ℕ) : Type 0 where
  pub height : ℕ
  pub is : n ≡ 2 ^ height

-- A tree with room for so many leaves.
pub record IsTree (t : List ℕ) (room : ℕ) : Type 0 where
  pub size : length t ≡ 2 * room
  pub few : room ≤ 131072
  pub power : 1 ≤ room → IsPower room
  pub sums : (q : ℕ) → 1 ≤ q → q < room → IsSum t q
  pub small : (j : ℕ) → j < room → slice_index t (room + j) < 2 ^ 32

-- the first n leaves
abbrev pub leaves : List ℕ → ℕ → ℕ → List ℕ
leaves t room n = take n (drop room t)

-- the leaves from n on are 0
abbrev pub NoneFrom : List ℕ → ℕ → ℕ → Type 0
NoneFrom t room n = (j : ℕ) → n ≤ j → j < room → slice_index t (room + j) ≡ 0

-- A tree whose first n leaves are used.
pub record Uses (t : List ℕ) (room n : ℕ) : Type 0 where
  pub tree : IsTree t room
  pub within : n ≤ room
  pub rest : NoneFrom t room n
