-- Counters that walk down the rows of a tile.
use Rattle.std.specs.Prelude.{◌≡◌, ◌⊎◌, ℕ, ◌+◌, ◌-◌, ◌*◌, ◌/◌, ◌^◌, ◌<◌, ◌≤◌, cond, nat_lt, List, length, slice_index}
use Rattle.std.specs.List.{sum_by}
use Rattle.mw_bits.specs.mw_pixel_words.Packed.{bit_of}
use Rattle.mw_rank_bits.specs.Numbers.{bits_at}
use Rattle.mw_rank_bits.specs.declared.walk.Rows.{Rows}

-- In rows of so many bits, what is seen one row further down is what is seen here, with what enters and without what leaves.
pub record AreMoves (wide : ℕ) (seen entered left : List ℕ) : Type 0 where
  pub balance : (f : ℕ → ℕ) → sum_by f entered + sum_by f seen ≡ sum_by f left + sum_by (λ (s : ℕ). f (s + wide)) seen
  pub part : (f : ℕ → ℕ) → sum_by f left ≤ sum_by f seen

-- 128 bits can be read at each of the places, so many words on
abbrev pub WordsHaveRoom : List ℕ → List ℕ → ℕ → Type 0
WordsHaveRoom cells places at = (k : ℕ) → k < length places → slice_index places k / 64 + at + 3 ≤ length cells

-- whether a number, and what is seen at a place, are together below half of what so many digits hold
abbrev pub is_below : ℕ → ℕ → List ℕ → List ℕ → ℕ → ℕ
is_below digits start cells seen q = cond (nat_lt (start + bits_at cells seen q) (2 ^ (digits - 1))) 1 0

-- in the first `high` rows of `wide` words, 128 bits from word j on have their values; the other bits are as they were
pub record HasColumn (value : ℕ → ℕ → ℕ) (wide j high : ℕ) (old new : List ℕ) : Type 0 where
  pub done : (q y : ℕ) → q < 128 → y < high → bit_of new (64 * (y * wide + j) + q) ≡ value q y
  pub others : (p : ℕ) → ((y : ℕ) → y < high → (p < 64 * (y * wide + j)) ⊎ (64 * (y * wide + j) + 128 ≤ p)) → bit_of new p ≡ bit_of old p

-- the pairs of words of all rows tell at which places the start and what is seen are together below half of what so many digits hold
abbrev pub HasBelow : ℕ → Rows → List ℕ → List ℕ → List ℕ → Type 0
HasBelow digits rows cells seen words = (x y : ℕ) → x < 64 * (2 * rows.pairs) → y < rows.high
    → bit_of words (y * (64 * (2 * rows.pairs)) + x) ≡ is_below digits rows.start cells seen (y * (64 * rows.wide) + x)
