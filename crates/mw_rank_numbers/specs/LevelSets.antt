-- Sets of levels as words, a bit each, and how many levels are below one.
use Rattle.std.specs.Prelude.{◌≡◌, ℕ, zero, suc, ◌+◌, ◌*◌, ◌/◌, ◌%◌, ◌<◌, List, length, slice_index, slice_index_or}
use Rattle.std.specs.Int.{bit_at}

-- how many words a set has
abbrev pub set_words : ℕ
set_words = 1024

-- 1 where the level is in the set, else 0
abbrev pub bit_in : List ℕ → ℕ → ℕ
bit_in words v = bit_at (slice_index words (v / 64)) (v % 64)

-- how many levels of the set are below the level
abbrev pub below_in : List ℕ → ℕ → ℕ
below_in words zero = 0
below_in words (suc v) = below_in words v + bit_in words v

-- how many levels are below those of each word, and how many there are
pub record IsSummed (words sums : List ℕ) (count : ℕ) : Type 0 where
  pub size : length sums ≡ set_words
  pub before : (i : ℕ) → i < set_words → slice_index sums i ≡ below_in words (64 * i)
  pub all : count ≡ below_in words 65536

-- at the number of the level the list has that level
abbrev pub IsBack : {A : Type 0} → (A → ℕ) → List ℕ → List A → ℕ → Type 0
IsBack {A} level words levels v = (d : A) → level (slice_index_or levels (below_in words v) d) ≡ v
