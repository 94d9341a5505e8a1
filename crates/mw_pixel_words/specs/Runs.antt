-- Samples of a row that are written over others.
use Rattle.std.specs.Prelude.{◌≡◌, ℕ, ◌+◌, ◌-◌, ◌<◌, ◌≤◌, List, ◌++◌, length, take, drop, Option, slice_get}
use Rattle.std.specs.Int.{bit_at}
use Rattle.mw_pixel_words.specs.Packed.{bit_of}

-- the cells with a row written over them from a place on
abbrev pub put_at : {A : Type 0} → ℕ → List A → List A → List A
put_at start row cells = take start cells ++ (row ++ drop (length row) (drop start cells))

-- of so many cells the first n have their values
pub record HasFront {A : Type 0} (value : ℕ → Option A) (n total : ℕ) (cells : List A) : Type 0 where
  pub size : length cells ≡ total
  pub same : (k : ℕ) → k < n → slice_get cells k ≡ value k

-- from a bit on the new word has so many lowest bits of the other; else it is the old
pub record IsBlended (lead count word other made : ℕ) : Type 0 where
  pub below : (b : ℕ) → b < lead → bit_at made b ≡ bit_at word b
  pub inside : (b : ℕ) → lead ≤ b → b < lead + count → bit_at made b ≡ bit_at other (b - lead)
  pub above : (b : ℕ) → lead + count ≤ b → b < 64 → bit_at made b ≡ bit_at word b

-- from a place on the new words have so many bits as others have them from a place of theirs on; else they are the old
pub record HasCopied (place from count : ℕ) (other old new : List ℕ) : Type 0 where
  pub size : length new ≡ length old
  pub before : (p : ℕ) → p < place → bit_of new p ≡ bit_of old p
  pub copied : (i : ℕ) → i < count → bit_of new (place + i) ≡ bit_of other (from + i)
  pub after : (p : ℕ) → place + count ≤ p → bit_of new p ≡ bit_of old p

-- from a place on the words have so many bits as others have them from a place of theirs on
abbrev pub HasSame : ℕ → ℕ → ℕ → List ℕ → List ℕ → Type 0
HasSame place from count words other = (i : ℕ) → i < count → bit_of words (place + i) ≡ bit_of other (from + i)
