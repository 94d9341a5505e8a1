-- The places of a row of 0 and 1 at which it changes, and the bits that tell of them.
use Rattle.std.specs.Prelude.{◌≡◌, ℕ, ◌+◌, ◌*◌, ◌%◌, ◌<◌, ◌≤◌, List, length}
use Rattle.std.specs.Int.{bit_at}
use Rattle.mw_pixel.specs.mw_pixel_words.Packed.{bit_of}
use Rattle.mw_geodesic_runs.specs.Runs.{left_of}

-- 1 where a place is not as the one to its left, else 0
abbrev pub change_at : (ℕ → ℕ) → ℕ → ℕ
change_at s x = (s x + left_of s x) % 2

-- the lowest bit of a number that is set
pub record IsLowestOne (n t : ℕ) : Type 0 where
  pub one : bit_at n t ≡ 1
  pub none : (j : ℕ) → j < t → bit_at n j ≡ 0

-- the second number has the bits of the first one above a bit
pub record HasBitsAbove (n t m : ℕ) : Type 0 where
  pub upto : (i : ℕ) → i ≤ t → bit_at m i ≡ 0
  pub above : (i : ℕ) → t < i → bit_at m i ≡ bit_at n i

-- the bits tell of the changes of word k that come behind a place
pub record AreChangesBehind (words : List ℕ) (at k bits : ℕ) : Type 0 where
  pub past : (i : ℕ) → i < 64 → 64 * k + i ≤ at → bit_at bits i ≡ 0
  pub ahead : (i : ℕ) → i < 64 → at < 64 * k + i → bit_at bits i ≡ change_at (bit_of words) (64 * k + i)

-- a row of words changes next at this place; where it does no more, the place is that behind the last word
pub record IsNextChange (words : List ℕ) (at place : ℕ) : Type 0 where
  pub from : at ≤ place
  pub within : place ≤ 64 * length words
  pub none : (x : ℕ) → at < x → x < place → change_at (bit_of words) x ≡ 0
  pub later : place < 64 * length words → at < place
  pub found : place < 64 * length words → change_at (bit_of words) place ≡ 1
